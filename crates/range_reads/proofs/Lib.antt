mod Common
pub mod Chunks
pub mod FreeRanges
