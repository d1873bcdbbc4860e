-- Laws of the definitions: places; ids, once each; queues; a snapshot as adds; orders seen in another way; the cut. Then what the code keeps: sides in
-- words, prices read, one entry, a side's entries, orders as shown, both sides.
pub mod Places
pub mod Ids
pub mod Once
pub mod Queue
pub mod Listing
pub mod Mapping
pub mod Best
pub mod Held
pub mod Sided
pub mod Sounds
pub mod Priced
pub mod Steps
pub mod Entries
pub mod Shown
pub mod Both
