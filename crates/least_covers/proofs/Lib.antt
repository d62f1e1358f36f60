-- The rows of blocks, and the blocks that are chosen by them.
pub mod Bounds
pub mod Counts
pub mod Gathers
pub mod Halves
pub mod Held
pub mod Joins
pub mod Made
pub mod Theorem
pub mod Walks
pub mod Writes
