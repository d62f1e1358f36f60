pub mod Faults
pub mod MultimapFaults
pub mod Laws
