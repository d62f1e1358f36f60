-- The names that several definitions cite, passed on from one place. Declares nothing.
pub use Rattle.std.specs.Cmp.{IsEquivalence}
pub use Rattle.std.specs.List.{AllByRecursion as Every}
pub use Rattle.std.specs.Option.{unwrap_or}
pub use Rattle.std.specs.Prelude.{Bool, IsTrue, List, MatchOption, None, Option, Some, [], drop, false, length, min, nat_lt, slice_index_or, slice_set, suc, take, true, zero, ℕ, ⊤}
pub use Rattle.std.specs.declared.cmp.Ordering.TheVariants.{Equal}
pub use Rattle.std.specs.declared.ops.Bound.{Bound}
pub use Rattle.range_keys.specs.Order.{IsLawful, KeyOrder}
pub use Rattle.range_keys.specs.Position.{end_position, position_cmp, start_position}
pub use Rattle.range_algebra.specs.Clones.{SameBound}
pub use Rattle.range_algebra.specs.Cuts.{lower, past, upper}
pub use Rattle.range_algebra.specs.Intervals.{Le, Lt}
pub use Rattle.range_algebra.specs.Range.{Holds, IsBoundOfKey, IsKeyRange}
pub use Rattle.range_algebra.specs.Relations.{LiesBefore, Touches}
pub use Rattle.range_algebra.specs.declared.any.AnyRange.{AnyRange}
pub use Rattle.range_store.specs.ListRanks.{IsAt, rank_or_len}
pub use Rattle.range_store.specs.declared.storage.Item.{Item}
pub use Rattle.range_edit.specs.declared.borders.Border.{Border}
pub use Rattle.range_edit.specs.declared.reach.Ends.{Ends}
pub use Rattle.range_edit.specs.declared.reach.Reach.{Reach}
pub use Rattle.range_edit.specs.declared.reach.Reach.TheVariants.{Surrounded, Apart}
pub use Rattle.range_runs.specs.declared.window.Window.{Window}
