pub mod CountedRuns
pub mod History
pub mod LastCommands
pub mod Runs
pub mod Tagged
