pub mod BoundPositions
pub mod Distances
pub mod Orderings
pub mod Touching
