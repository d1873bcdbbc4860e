-- What the proofs of several functions cite, here and in the crates above. In reading order: one entry; what is told of it; decimals in quotes; one entry
-- more; the entries of a message, array by array; an array, entry by entry; a text in the middle of another; check 8.
pub mod Stops
pub mod Entry
pub mod Strings
pub mod Found
pub mod Numbers
pub mod Decimals
pub mod Counting
pub mod Tallies
pub mod Arrays
pub mod Shift
pub mod Claims
