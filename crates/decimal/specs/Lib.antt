-- In reading order: texts written out; digits; decimals; the words that a decimal is kept in; whole numbers; a text laid into a buffer; a text handed out from its end; worked examples.
pub mod Digits
pub mod Decimal
pub mod Limits
pub mod Words
pub mod Whole
pub mod Reads
pub mod Buffer
pub mod Laying
pub mod Tail
pub mod Examples
