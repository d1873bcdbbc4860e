-- What is laid.
pub mod Words
