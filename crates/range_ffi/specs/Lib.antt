pub mod Bindings
pub mod Flags
pub mod Wide
