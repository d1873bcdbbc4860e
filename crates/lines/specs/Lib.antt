-- In reading order: the lines of a text; worked examples.
pub mod Lines
pub mod Examples
