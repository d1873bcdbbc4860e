-- In reading order: what is told of orders, array by array; one member more; the object in the end; `data` around it.
pub mod Orders
pub mod Steps
pub mod Whole
pub mod OneElement
