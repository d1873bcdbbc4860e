-- In reading order: line 1; the reply to a message; worked examples.
pub mod Opening
pub mod Reply
pub mod Examples
