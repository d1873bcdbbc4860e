-- In reading order: the claims; examples at their edge.
pub mod Claims
pub mod Examples
