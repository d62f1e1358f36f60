-- The names that several definitions cite, passed on from one place. Declares nothing.
pub use Rattle.std.specs.Borrow.{Bor}
pub use Rattle.std.specs.List.{AllZip, fold, AllByRecursion as Every}
pub use Rattle.std.specs.Option.{option_map}
pub use Rattle.std.specs.declared.cmp.Ordering.TheVariants.{Equal}
pub use Rattle.std.specs.declared.ops.Bound.{Bound}
pub use Rattle.range_keys.specs.Order.{IsLawful, KeyOrder}
pub use Rattle.range_keys.specs.Position.{bound_of}
pub use Rattle.range_algebra.specs.Compared.{flipped}
pub use Rattle.range_algebra.specs.Intervals.{Any}
pub use Rattle.range_algebra.specs.Range.{Holds, IsKeyRange}
pub use Rattle.range_algebra.specs.RangeOrder.{range_cmp, range_input, range_respects, range_total}
pub use Rattle.range_algebra.specs.Relations.{LiesBefore}
pub use Rattle.range_algebra.specs.declared.any.AnyRange.{AnyRange}
pub use Rattle.range_store.specs.declared.storage.Item.{Item}
pub use Rattle.range_runs.specs.Bindings.{BindAlike}
pub use Rattle.range_runs.specs.Neighbours.{EachNext}
pub use Rattle.range_runs.specs.Pieces.{IsPiece}
pub use Rattle.range_runs.specs.Stored.{IsStored}
