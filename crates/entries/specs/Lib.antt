-- In reading order: where things lie in a message; its entries; what is told of one in numbers; what is met of them, entry by entry; what their readers find
-- on the way; decimals in quotes, read in one go.
pub mod Places
pub mod Rows
pub mod Found
pub mod Tally
pub mod Front
pub mod Decimals
