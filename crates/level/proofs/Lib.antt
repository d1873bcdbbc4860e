-- Laws of the definitions: the order of prices; what holds of all; ranking and applying; levels seen in another way; prices met; what an entry does; the words; shifts of an array.
pub mod Order
pub mod All
pub mod Ranking
pub mod Lengths
pub mod Mapping
pub mod Meeting
pub mod Moving
pub mod Changes
pub mod Packing
pub mod Stored
pub mod Held
pub mod Determined
pub mod Shift
