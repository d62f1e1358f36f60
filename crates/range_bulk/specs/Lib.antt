pub mod Appending
mod Common
pub mod Sorting
pub mod Splitting
