-- In reading order: the layout of dialect M; what one walk over a message collects of it.
pub mod LayoutM
pub mod Collected
