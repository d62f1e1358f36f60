-- Texts of addresses, and lines of lists.
pub mod Faults
pub mod Lines
pub mod Places
pub mod Starts
pub mod Texts
