-- In reading order: the reference book; the claims about it; worked examples.
pub mod Reference
pub mod Claims
pub mod Examples
