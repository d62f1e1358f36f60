pub mod AskedPieces
pub mod Combination
pub mod Combining
pub mod Common
pub mod ExcludedEnds
pub mod FirstPieces
pub mod HeldInside
pub mod WidestPieces
