-- What the code of the CRC has of its own: the table that callers lend. The definition of the CRC is in crc32_spec.
pub mod Table
