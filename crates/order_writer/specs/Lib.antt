-- In reading order: the text of a snapshot of single orders; its parts; worked examples.
pub mod Snapshot
pub mod Parts
pub mod Examples
