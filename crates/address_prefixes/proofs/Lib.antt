-- Powers of two, lists of prefixes, and the runs that they divide.
pub mod Blocks
pub mod Containing
pub mod Fewest
pub mod FewestOfRuns
pub mod Powers
pub mod RunTiles
pub mod Runs
pub mod Steps
pub mod Tiles
pub mod Widest
