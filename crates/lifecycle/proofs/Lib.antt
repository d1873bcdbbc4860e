-- What functions here and crates above cite.
pub mod Laws
