-- Tables of prefixes with values, and the maps of addresses that they are.
pub mod Lengths
pub mod Numbers
pub mod Tables
pub mod Tiled
