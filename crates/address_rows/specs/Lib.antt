-- What lines of tables say, and such lines as they are printed.
pub mod Blocks
pub mod Forms
pub mod Lines
pub mod Rows
pub mod Texts
