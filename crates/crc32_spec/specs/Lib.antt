-- In reading order: the definition; its algebra; texts and their parts; what the tables hold; check values.
pub mod Crc
pub mod Laws
pub mod Text
pub mod Rows
pub mod Examples
