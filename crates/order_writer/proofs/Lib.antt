-- Laws, each file about the definitions that it is named after.
pub mod Ids
pub mod Snapshot
pub mod Parts
