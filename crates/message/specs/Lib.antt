-- In reading order: what a message says; what its reader answers, and how that is decided; the first bad text; worked examples.
pub mod Meaning
pub mod Verdict
pub mod Deciding
pub mod Bad
pub mod Examples
