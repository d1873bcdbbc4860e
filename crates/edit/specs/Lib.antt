-- In reading order: what an entry does; entries in a buffer of words.
pub mod Edit
pub mod Buffer
