pub mod Best
pub mod Finding
pub mod Firsts
pub mod Fronts
pub mod Leading
pub mod Lists
pub mod Reading
