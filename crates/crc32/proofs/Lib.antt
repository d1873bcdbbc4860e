-- Laws that the proofs of functions cite, each file about the definitions that it is named after.
pub mod Moves
pub mod Filled
pub mod Texts
