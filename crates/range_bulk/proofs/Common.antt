-- The names that several proofs of this crate cite, passed on from one place. Declares nothing.
pub use Rattle.std.proofs.Common.{Bool, IsTrue, List, None, Option, Some, [], ap, arith, false, get_or, inl, inr, length, map, refl, rules, subst, suc, sym, take, true, zero, ℕ, ◌++◌, ◌+◌, ◌-◌, ◌<◌, ◌↔◌, ◌∙◌, ◌∷◌, ◌≡◌, ◌≤◌, ◌⊎◌}
pub use Rattle.std.proofs.lemmas.Bool.{and_from, and_parts, false≢true}
pub use Rattle.std.proofs.lemmas.Grind.{common_steps}
pub use Rattle.std.proofs.lemmas.List.{append-nil, append_assoc, length-append, map-append, map_more, take-map}
pub use Rattle.std.proofs.lemmas.List.Edits.{insert_end}
pub use Rattle.std.specs.Cmp.{IsEquivalence, IsTotalOrder}
pub use Rattle.std.specs.List.{insert, AllByRecursion as Every}
pub use Rattle.std.specs.Option.{option_map}
pub use Rattle.std.specs.Prelude.{if◌then◌else◌, slice_set}
pub use Rattle.std.specs.declared.cmp.Ordering.{Ordering}
pub use Rattle.std.specs.declared.cmp.Ordering.TheVariants.{Equal}
pub use Rattle.std.specs.declared.ops.Bound.{Bound}
pub use Rattle.std.specs.declared.ops.Bound.TheVariants.{Excluded, Included, Unbounded}
pub use Rattle.range_keys.proofs.Orderings.{not_greater}
pub use Rattle.range_keys.specs.Order.{Below, IsLawful, KeyOrder, NotAbove}
pub use Rattle.range_keys.specs.Position.{end_position, position_cmp, start_position}
pub use Rattle.range_keys.specs.PositionOrder.{position_total}
pub use Rattle.range_keys.specs.declared.inner.position.Position.{Position}
pub use Rattle.range_keys.specs.declared.inner.position.Position.TheVariants.{Beside}
pub use Rattle.range_keys.specs.declared.inner.position.Side.TheVariants.{At}
pub use Rattle.range_algebra.proofs.Holding.{holds_by_position}
pub use Rattle.range_algebra.proofs.Lists.{every_append, every_left, every_right, every_weaker}
pub use Rattle.range_algebra.proofs.Meeting.{held_or_not}
pub use Rattle.range_algebra.proofs.Positions.{held_between, unbounded_end, unbounded_start}
pub use Rattle.range_algebra.specs.Clones.{SameBound}
pub use Rattle.range_algebra.specs.Cuts.{lower}
pub use Rattle.range_algebra.specs.Intervals.{Any, Le, Lt}
pub use Rattle.range_algebra.specs.Range.{Holds, IsEmptyRange, IsBoundOfKey, IsKeyRange}
pub use Rattle.range_algebra.specs.Relations.{LiesBefore}
pub use Rattle.range_algebra.specs.declared.any.AnyRange.{AnyRange}
pub use Rattle.range_store.proofs.ListRanks.{place_at}
pub use Rattle.range_store.specs.ListRanks.{rank_or_len}
pub use Rattle.range_store.specs.declared.storage.Item.{Item}
pub use Rattle.range_runs.proofs.Chains.{chain_above, chain_before, chain_right, follows_like, same_is_symmetric}
pub use Rattle.range_runs.proofs.Forms.{Chained, Hold, Known, before_is, bound_hold, chain_stored, nonempty_good, places, same_binds, stored_chain, stored_known, touches_is}
pub use Rattle.range_runs.proofs.Listed.{IsListed, stored_list_is_listed}
pub use Rattle.range_runs.proofs.Overlaps.{binds_bound}
pub use Rattle.range_runs.proofs.RangePieces.{every_with}
pub use Rattle.range_runs.proofs.Results.{error_has_no_value, on_error}
pub use Rattle.range_runs.specs.Bindings.{BindAlike, Binds, BindsTo, IsBound}
pub use Rattle.range_runs.specs.Chains.{Follows, IsLeft, IsRight, Leads, Respects, line_of}
pub use Rattle.range_runs.specs.Lookups.{MeetsSome, Overlap}
pub use Rattle.range_runs.specs.Stored.{IsStored, item_lower, item_upper}
pub use Rattle.range_runs.proofs.PlaceOrder.{both, le_lt_trans, le_refl, le_trans, lt_le, lt_le_trans, lt_not_le, lt_trans, not_lt}
pub use Rattle.range_bulk.specs.Appending.{IsApartFromLast, LieBefore, appended, are_one, as_one, joined}
pub use Rattle.range_reads.specs.FreeRanges.{full_range, item_ranges}
pub use Rattle.range_bulk.specs.Sorting.{IsFirstFault, IsNext, IsSorted, item_of, last_key}
