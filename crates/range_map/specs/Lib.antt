pub mod Askable
mod Common
pub mod Extending
pub mod Freeing
pub mod MappedValues
pub mod OrderedSets
pub mod Overlapping
pub mod Overlays
pub mod PartWay
pub mod Rebinding
pub mod Retaining
pub mod SimpleUpdates
pub mod Texts
pub mod Together
