-- Laws of line 1; of the length of a reply.
pub mod Settings
pub mod Length
