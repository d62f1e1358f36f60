-- The set of the blocks that add the fewest numbers adds the fewest addresses.
pub mod Itself
pub mod Numbers
pub mod Prefixes
pub mod Runs
pub mod Theorem
