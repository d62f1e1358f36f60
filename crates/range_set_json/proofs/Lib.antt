pub mod Multimaps
pub mod SetReadingBack
