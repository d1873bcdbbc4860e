-- Laws, each file about the definitions that it is named after.
pub mod Owed
pub mod Joined
pub mod Entries
pub mod Texts
