-- In reading order: a side after the entries of a message; whether two sides are crossed.
pub mod Working
pub mod Crossing
