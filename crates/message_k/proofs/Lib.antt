-- In reading order: the member `c` and the first element; the channel's name; one member, and objects; one element; check 6
-- by its tests; tests on counts; what is told of objects; check 6 of the objects; the message.
pub mod Numbers
pub mod Channel
pub mod OneMember
pub mod Objects
pub mod Holding
pub mod OnePart
pub mod Bearing
pub mod Outlines
pub mod Counts
pub mod Tells
pub mod Layouts
pub mod Messages
