pub mod Faults
pub mod Refusals
pub mod Rules
pub mod Tokens
