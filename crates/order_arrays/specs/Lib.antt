-- In reading order: the orders of an array, and what is met of them; worked examples.
pub mod Tally
pub mod Examples
