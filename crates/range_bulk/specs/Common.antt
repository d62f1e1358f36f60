-- The names that several definitions cite, passed on from one place. Declares nothing.
pub use Rattle.std.specs.List.{AllByRecursion as Every}
pub use Rattle.range_keys.specs.Order.{Below, KeyOrder, NotAbove}
pub use Rattle.range_keys.specs.Position.{start_position}
pub use Rattle.range_algebra.specs.Compared.{starts_at_end}
pub use Rattle.range_algebra.specs.Range.{IsEmptyRange}
pub use Rattle.range_algebra.specs.Relations.{LiesBefore}
pub use Rattle.range_algebra.specs.declared.any.AnyRange.{AnyRange}
pub use Rattle.range_store.specs.declared.storage.Item.{Item}
pub use Rattle.range_runs.specs.Bindings.{Binds, IsBound}
pub use Rattle.range_runs.specs.Neighbours.{EachNext}
pub use Rattle.range_runs.specs.Stored.{IsStored}
