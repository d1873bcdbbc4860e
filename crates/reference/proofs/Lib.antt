-- In reading order: kinds of messages; checksums; the chain of checks; what a message makes of a book; questions; what messages carry; lists of calls; shut books; the round trip; live books that are alike; the claims.
pub mod Snapshot
pub mod Sums
pub mod Checks
pub mod Outcome
pub mod Questions
pub mod Carried
pub mod Runs
pub mod Shutting
pub mod Back
pub mod Alike
pub mod Claims
