-- In reading order: the orders of a message, where they lie; what one walk over an order collects; what an order says; worked examples.
pub mod Rows
pub mod Collected
pub mod Saying
pub mod Examples
