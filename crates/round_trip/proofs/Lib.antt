-- In reading order: what stands at a position; tokens; lists of items; values; the readers of values; entries; how long the texts are; the whole
-- message; what good settings say; K's snapshot; M's; the claims.
pub mod Places
pub mod Tokens
pub mod Lists
pub mod Values
pub mod Readers
pub mod Rows
pub mod Sizes
pub mod Whole
pub mod Settings
pub mod SnapshotK
pub mod SnapshotM
pub mod Claims
