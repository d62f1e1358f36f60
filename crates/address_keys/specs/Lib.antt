-- Families of addresses, as keys and as JSON.
pub mod Addresses
pub mod Families
pub mod Json
