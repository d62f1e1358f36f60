pub mod Children
pub mod Heap
pub mod Occurrences
pub mod Rows
pub mod Spares
pub mod Segments
