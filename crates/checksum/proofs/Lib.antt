-- Laws of the checksum text, and of the state after the pieces of levels.
pub mod Bytes
pub mod Pieces
