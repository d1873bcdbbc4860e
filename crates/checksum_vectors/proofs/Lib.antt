-- Laws of what the program keeps true.
pub mod Valid
