-- Demand 3 of the code, of books by value and of books whose words are lent.
pub mod Calls
pub mod Lent
pub mod Bursts
pub mod FirstBad
