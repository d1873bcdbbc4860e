-- Laws of sums: a text in front of a piece.
pub mod Sums
