pub mod Calls
pub mod EqualClones
pub mod ListedMembers
pub mod Members
pub mod Multimaps
pub mod Pairs
