-- Tables of prefixes, and the shortest one of a map.
pub mod Entries
pub mod Labels
pub mod Numbers
pub mod Tables
pub mod Trees
