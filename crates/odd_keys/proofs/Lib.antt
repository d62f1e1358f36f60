pub mod Decided
pub mod Searched
