pub mod Counting
pub mod ListRanks
pub mod Rewriting
