pub mod Opens
pub mod Walks
