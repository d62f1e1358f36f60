pub mod Extending
pub mod KeySets
