pub mod Faults
mod FirstLine
pub mod Progress
pub mod Conversations
pub mod Listing
pub mod Told
