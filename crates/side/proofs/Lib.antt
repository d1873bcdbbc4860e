-- What the loops keep: the search, and a message's entries. Then what entries set, and what the levels shown are.
pub mod Find
pub mod Shifted
pub mod Steps
pub mod Entries
pub mod Turns
pub mod Changes
pub mod Mapped
pub mod Outcome
