-- What the proofs of several functions cite, here and in the crates above.
pub mod Laws
pub mod Bounds
pub mod Words
pub mod Shift
