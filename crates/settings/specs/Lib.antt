-- In reading order: the settings of a book; a dialect's rules; what the code keeps; worked examples.
pub mod Settings
pub mod Rules
pub mod Kept
pub mod Examples
