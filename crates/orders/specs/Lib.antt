-- In reading order: a side of single orders and what a message does to it; the words that orders are kept in; what the functions of the code promise; worked examples.
pub mod Orders
pub mod Words
pub mod Kept
pub mod Examples
