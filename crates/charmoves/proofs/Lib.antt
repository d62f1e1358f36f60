pub mod Adding
pub mod Gathering
pub mod LongestFronts
pub mod Paths
