pub mod Changes
pub mod Cutting
pub mod Given
pub mod Left
pub mod Modes
pub mod Runs
pub mod States
