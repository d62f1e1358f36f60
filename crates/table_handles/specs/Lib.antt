-- Tables of addresses as they cross to C.
pub mod Prefixes
pub mod Tables
