-- In reading order: what a feed says to a book, and what is replied; a feed that comes in blocks.
pub mod Feed
pub mod Stream
