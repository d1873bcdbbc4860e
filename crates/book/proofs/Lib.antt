-- In reading order: refusals and the chain of checks; entries; messages taken; questions; the writer.
pub mod Refusing
pub mod Entering
pub mod Settling
pub mod Judging
pub mod Asking
pub mod Snapshots
