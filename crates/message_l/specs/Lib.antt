-- In reading order: the orders of `data`, as request c has them; what one walk over `data` collects of them.
pub mod Orders
pub mod Collected
