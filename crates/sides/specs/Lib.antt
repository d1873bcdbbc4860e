-- A side with the entries of a message applied.
pub mod Worked
