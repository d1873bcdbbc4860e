-- Laws of what stands before a byte; of bytes moved to the front; of the lines of a text; of a text in blocks.
pub mod Before
pub mod Moved
pub mod Split
pub mod Blocks
