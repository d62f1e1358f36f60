pub mod Any
pub mod Ranges
