-- In reading order: the layout of dialect K; what one walk over a message tells of its objects and of its elements.
pub mod LayoutK
pub mod MembersK
pub mod PartsK
