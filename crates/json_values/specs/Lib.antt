-- In reading order.
pub mod Json
pub mod Fold
pub mod Names
pub mod Escapes
pub mod Which
pub mod Ends
pub mod Claims
pub mod Examples
