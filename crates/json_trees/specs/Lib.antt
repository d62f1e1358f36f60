pub mod LookUps
pub mod Borrowed
