pub mod Built
pub mod Drafts
pub mod Faults
pub mod Languages
pub mod Leaves
pub mod Parts
pub mod Patterns
pub mod Sizes
