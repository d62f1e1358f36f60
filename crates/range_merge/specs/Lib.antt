pub mod AskedPieces
pub mod Combining
pub mod Merged
