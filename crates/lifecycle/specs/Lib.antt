-- How a book stands.
pub mod Lifecycle
