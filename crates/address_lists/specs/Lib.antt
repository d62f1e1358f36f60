-- What a list of addresses says, and how it is printed.
pub mod Counted
pub mod Files
pub mod Fitting
pub mod Json
pub mod Lists
pub mod Lookups
pub mod Printed
pub mod Ranges
pub mod Reading
pub mod Series
pub mod Split
pub mod Waiting
