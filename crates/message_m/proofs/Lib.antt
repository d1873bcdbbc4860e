-- In reading order: one member more; what the buffer has meanwhile; what was met in the end.
pub mod Steps
pub mod Holding
pub mod Whole
pub mod Keeping
