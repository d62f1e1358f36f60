-- Prefixes, and the runs of numbers that they are made of.
pub mod Prefixes
pub mod Runs
pub mod Spans
pub mod Tiles
