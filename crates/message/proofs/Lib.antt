-- In reading order: the checks by what is told of a message; the members that entries are collected from; where entries lie, and what holds of a message that passes; the answers of the reader; the first bad text.
pub mod Deciding
pub mod Members
pub mod Where
pub mod Entering
pub mod Reading
pub mod FirstBad
