-- In reading order: the claims; levels that they speak of.
pub mod Claims
pub mod Examples
