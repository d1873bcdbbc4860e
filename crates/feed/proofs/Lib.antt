-- Laws of the reply to a message; of lines heard one after another; of a long line 1; of a feed that comes in blocks.
pub mod Replying
pub mod Processing
pub mod LongLine
pub mod Blocks
pub mod Streaming
