-- In reading order: one order; the orders of an array, one after the other.
pub mod Counting
pub mod Arrays
