-- The ranges of a set, by the numbers of their addresses.
pub mod Counts
pub mod Sets
pub mod StoredRuns
