-- In reading order: the text of a snapshot; its parts, and a part laid into a buffer; worked examples.
pub mod Snapshot
pub mod Parts
pub mod Examples
