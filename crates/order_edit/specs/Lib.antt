-- In reading order: the id of an order; entries in a buffer of words.
pub mod Ids
pub mod Buffer
pub mod Examples
