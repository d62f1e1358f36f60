pub mod Blocks
pub mod Cells
pub mod Lends
pub mod Permits
