pub mod Beginnings
pub mod Found
pub mod Listed
pub mod Steps
pub mod Tokens
