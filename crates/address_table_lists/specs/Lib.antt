-- What tables of addresses say, and how they are printed.
pub mod Blocks
pub mod Counts
pub mod Framed
pub mod Lookups
pub mod Parts
pub mod Printed
pub mod Reading
pub mod Rows
pub mod Tables
