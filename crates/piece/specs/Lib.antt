-- A level's piece of checksum text.
pub mod Piece
