-- That the shortest table routes as the map does, that no other that does is shorter, that the
-- longest prefixes are looked for one length after the other, and which prefixes a table is.
pub mod Apart
pub mod Bits
pub mod Bound
pub mod FewestApart
pub mod Gathered
pub mod Items
pub mod Lengths
pub mod Lists
pub mod Places
pub mod Pushed
pub mod Routes
pub mod Theorem
pub mod Tiled
pub mod Ties
