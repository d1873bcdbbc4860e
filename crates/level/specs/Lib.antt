-- In reading order: a side and what entries do to it; what contracts and laws say of sides; what an order of prices says; levels and entries in
-- words; the side that the code keeps; worked examples.
pub mod Side
pub mod Ranked
pub mod Moved
pub mod Order
pub mod Words
pub mod Kept
pub mod Examples
