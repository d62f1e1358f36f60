pub mod Giving
pub mod ModeSteps
pub mod Pieces
pub mod StateSteps
pub mod TokenLists
