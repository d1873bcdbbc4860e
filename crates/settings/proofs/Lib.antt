-- Laws of good settings.
pub mod Good
pub mod Depth
