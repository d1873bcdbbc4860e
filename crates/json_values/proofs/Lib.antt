-- What the proofs of several functions cite, here and in the crates above.
pub mod Laws
pub mod Bounds
pub mod Walk
pub mod Fold
pub mod Ends
pub mod Names
pub mod Claims
pub mod Which
pub mod Shift
