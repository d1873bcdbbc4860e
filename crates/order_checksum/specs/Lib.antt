-- In reading order: the checksum text of a book of single orders; a worked example.
pub mod Text
pub mod Examples
