pub mod Altered
pub mod CallHistories
pub mod Filled
pub mod Keeping
pub mod Pairing
pub mod PairsTogether
