-- Sets that have all addresses of another, and few prefixes.
pub mod Blocks
pub mod Covers
