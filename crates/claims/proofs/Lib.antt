-- The claim of the code.
pub mod Claims
pub mod Lent
pub mod Bursts
pub mod FirstBad
