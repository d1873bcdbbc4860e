-- In reading order: words and whole calls; one call; the loop over a script; the claims.
pub mod Fields
pub mod Answering
pub mod Laying
pub mod Replaying
pub mod Claims
