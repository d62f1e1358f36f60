-- The names that several definitions cite, passed on from one place. Declares nothing.
pub use Rattle.std.specs.Cmp.{IsEquivalence, IsTotalOrder}
pub use Rattle.std.specs.List.{AllByRecursion as Every, AllWithin, AllZip}
pub use Rattle.std.specs.Option.{option_copied}
pub use Rattle.std.specs.Prelude.{Bool, Err, IsTrue, List, None, Ok, Option, Result, Some, [], drop, insert, length, map, slice_index_or, slice_set, take, true, ℕ, ⊤}
pub use Rattle.std.specs.declared.cmp.Ordering.TheVariants.{Equal}
pub use Rattle.std.specs.declared.ops.Bound.{Bound}
pub use Rattle.range_keys.specs.Order.{IsLawful, KeyOrder}
pub use Rattle.range_keys.specs.Position.{end_position, position_cmp, start_position}
pub use Rattle.range_keys.specs.declared.inner.position.Position.{Position}
pub use Rattle.range_algebra.specs.Clones.{IsBoundClone, SameBound}
pub use Rattle.range_algebra.specs.Compared.{flipped, is_before, range_ordering, starts_past_end}
pub use Rattle.range_algebra.specs.Cuts.{lower, upper}
pub use Rattle.range_algebra.specs.Intervals.{Any, Le, Lt}
pub use Rattle.range_algebra.specs.Range.{HoldSame, Holds, IsEmptyRange, IsKeyless, IsBoundOfKey, IsKeyRange}
pub use Rattle.range_algebra.specs.Relations.{AreBelow, AreJoined, LiesBefore, Touches}
pub use Rattle.range_algebra.specs.declared.any.AnyRange.{AnyRange}
pub use Rattle.range_store.specs.ListRanks.{IsAt, rank_or_len}
pub use Rattle.range_store.specs.declared.storage.Item.{Item}
pub use Rattle.range_runs.specs.declared.window.Window.{Window}
pub use denote.Ref.{Bor}
