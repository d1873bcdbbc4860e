-- In reading order.
pub mod Bytes
pub mod Tokens
pub mod Ends
pub mod Words
