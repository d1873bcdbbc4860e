-- In reading order: how deep a message nests; what is read of it; what one walk over it tells, in numbers; how often members have one of our names.
pub mod Depths
pub mod Layout
pub mod Scan
pub mod MemberSpans
