-- Lines of any text, and the addresses of a list in them.
pub mod Found
pub mod Sought
pub mod Words
