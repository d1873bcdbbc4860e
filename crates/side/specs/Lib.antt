-- What applying entries gives.
pub mod Applying
-- A side while entries are applied to it.
pub mod Working
