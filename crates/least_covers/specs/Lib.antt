-- Blocks that cover numbers, and the fewest numbers that so many blocks add.
pub mod Covers
pub mod Rows
pub mod Runs
pub mod Trees
