-- Lemmas.
mod Blocks
pub mod Comments
mod Excerpts
pub mod Faults
mod Masks
mod Places
pub mod Spans
pub mod Starts
