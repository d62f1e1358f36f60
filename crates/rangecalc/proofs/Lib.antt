-- What the calls make of lists, and what they tell of them.
pub mod Itself
pub mod Letters
pub mod Made
pub mod Related
pub mod Served
