-- In reading order: words taken three at a time; an entry packed in three words; `==` of two sides.
pub mod Threes
pub mod Packing
pub mod Sides
