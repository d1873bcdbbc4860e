-- What crates above cite.
pub mod Laws
