pub mod BoundElements
pub mod ElementLoop
pub mod MapReading
pub mod WritingLoop
