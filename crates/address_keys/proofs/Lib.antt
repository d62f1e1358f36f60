-- Addresses that are read from JSON.
pub mod Reading
