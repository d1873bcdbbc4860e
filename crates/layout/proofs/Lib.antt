-- In reading order: what is told of sides and layouts; marks and slots; the value at a position as an object.
pub mod Laws
pub mod MemberSpans
pub mod Objects
