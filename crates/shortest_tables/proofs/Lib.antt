-- The table of a map routes as the map, and none that does is shorter.
pub mod Aligned
pub mod Blocks
pub mod Costs
pub mod Descends
pub mod Gathers
pub mod Least
pub mod Made
pub mod Numbered
pub mod Seen
pub mod Theorem
pub mod Values
pub mod Walks
pub mod Writes
