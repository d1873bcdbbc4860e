-- In reading order: words taken six at a time; an entry packed in six words; the words of an id.
pub mod Sixes
pub mod Packing
pub mod Ids
