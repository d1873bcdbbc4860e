-- In reading order: the bytes of a script and of its replies; what the code ensures; what is claimed of every list of calls.
pub mod Format
pub mod Calls
pub mod Claims
