mod Common
pub mod FreeRanges
pub mod Iteration
pub mod ListOrder
pub mod PieceLists
