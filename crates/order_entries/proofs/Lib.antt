-- In reading order: the order out of the members that were met; the members of an object, one after the other; texts too short for quotes.
pub mod Placing
pub mod Walking
pub mod Texts
