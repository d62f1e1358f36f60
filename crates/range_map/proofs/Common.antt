-- The names that several proofs of this crate cite, passed on from one place. Declares nothing.
pub use Rattle.std.proofs.Common.{Bool, Err, IsTrue, List, None, Ok, OnErr, OnOk, Option, Result, Some, [], ap, arith, false, get_or, inl, inr, length, map, refl, rules, subst, suc, sym, take, true, zero, ℕ, ◌&&◌, ◌*◌, ◌++◌, ◌+◌, ◌-◌, ◌/◌, ◌<◌, ◌^◌, ◌↔◌, ◌∙◌, ◌∷◌, ◌≡◌, ◌≤◌, ◌⊎◌}
pub use Rattle.std.proofs.lemmas.Bool.{and_from, and_parts, false≢true}
pub use Rattle.std.proofs.lemmas.Grind.{common_steps}
pub use Rattle.std.proofs.lemmas.List.{append-nil, append_assoc, length-append, length_push, map-append, take_all}
pub use Rattle.std.proofs.lemmas.List.Edits.{length-insert, length-remove, remove-append_right}
pub use Rattle.std.proofs.lemmas.List.Elements.{All-more, recursion_from_All}
pub use Rattle.std.specs.Cmp.{Equal-is, IsEquivalence, IsTotalOrder, alike_right, first_so, second_so, tied_back, tied_itself}
pub use Rattle.std.specs.Fn.{FnReturnsAt, Shared}
pub use Rattle.std.specs.List.{All, AllWithin, AllZip, fold, items_where_true, AllByRecursion as Every}
pub use Rattle.std.specs.Option.{IsSomeAnd, option_map}
pub use Rattle.std.specs.Ordering.{eq_by_cmp, is_eq, is_gt}
pub use Rattle.std.specs.Prelude.{IsNone, IsOk, IsSome, MatchOption, remove, slice_index_or}
pub use Rattle.std.specs.declared.cmp.Ordering.{Ordering}
pub use Rattle.std.specs.declared.cmp.Ordering.TheVariants.{Equal, Greater}
pub use Rattle.std.specs.declared.ops.Bound.{Bound}
pub use Rattle.std.specs.declared.ops.Bound.TheVariants.{Excluded, Included, Unbounded}
pub use Rattle.range_keys.proofs.Orderings.{both_equal, eq_is_equal, greater_or_not, not_both_greater_and_not, not_greater, not_not_less}
pub use Rattle.range_keys.specs.Order.{Below, IsComplete, IsLawful, IsMeasure, KeyOrder}
pub use Rattle.range_keys.specs.Position.{end_position, position_cmp, start_position}
pub use Rattle.range_keys.specs.PositionOrder.{position_total}
pub use Rattle.range_keys.specs.declared.inner.position.Position.{Position}
pub use Rattle.range_keys.specs.declared.inner.position.Position.TheVariants.{Beside}
pub use Rattle.range_keys.specs.declared.inner.position.Side.TheVariants.{At}
pub use Rattle.range_algebra.proofs.Canonical.{equal_is_same, same_is_equal}
pub use Rattle.range_algebra.proofs.Completeness.{nonempty_holds}
pub use Rattle.range_algebra.proofs.Holding.{empty_is_keyless, holds_by_position}
pub use Rattle.range_algebra.proofs.Lists.{any_left, any_none, any_right, every_append, every_left, every_right, every_weaker}
pub use Rattle.range_algebra.proofs.Meeting.{held_or_not, past_is_start}
pub use Rattle.range_algebra.proofs.Positions.{flipped_bound_is_past, flipped_known, held_between, reaching_is_before_past, unbounded_end, unbounded_start}
pub use Rattle.range_algebra.specs.Clones.{IsBoundClone, IsRangeClone, SameBound, bound_clone, range_clone, same_end, same_start}
pub use Rattle.range_algebra.specs.Compared.{flipped, is_before, starts_at_end}
pub use Rattle.range_algebra.specs.Cuts.{lower, past, upper}
pub use Rattle.range_algebra.specs.Intervals.{Any, Le, Lt}
pub use Rattle.range_algebra.specs.Range.{ClonesAreEqual, HoldSame, Holds, IsEmptyRange, IsKeyless, IsBoundOfKey, IsKeyRange}
pub use Rattle.range_algebra.specs.RangeOrder.{range_cmp, range_total}
pub use Rattle.range_algebra.specs.References.{range_of}
pub use Rattle.range_algebra.specs.Relations.{LiesBefore, LiesBetween, Touches}
pub use Rattle.range_algebra.specs.declared.any.AnyRange.{AnyRange}
pub use Rattle.range_store.proofs.ListRanks.{place_at}
pub use Rattle.range_store.specs.ListRanks.{IsAt, rank_or_len}
pub use Rattle.range_store.specs.declared.storage.Item.{Item}
pub use Rattle.range_runs.proofs.Chains.{chain_above, chain_left, strictly_leads}
pub use Rattle.range_runs.proofs.CoveredPlaces.{on_ok}
pub use Rattle.range_runs.proofs.Forms.{Chained, Known, before_is, chain_stored, nonempty_good, stored_chain, stored_known, touches_is}
pub use Rattle.range_runs.proofs.Found.{bound_at, every_nonempty}
pub use Rattle.range_runs.proofs.Listed.{IsListed, stored_by, stored_list_is_listed}
pub use Rattle.range_runs.proofs.Overlaps.{binding_meets, binds_bound, holding_is, meeting_binds}
pub use Rattle.range_runs.proofs.RangePieces.{PLe, any_over, any_use, any_with, earlier_under, either_choice_holds, every_with, later_over, lies_in}
pub use Rattle.range_runs.proofs.Results.{error_has_no_value, on_error}
pub use Rattle.range_runs.proofs.Tests.{not_both}
pub use Rattle.range_edit.proofs.UpdatedLists.{updated_stands}
pub use Rattle.range_runs.specs.Answers.{Answered, FailsAt, IsAnswered, IsAsAnswered, IsUpdated, MayAnswer, MayFail, piece_of}
pub use Rattle.range_runs.specs.Bindings.{AreAlike, AreDisjoint, BindAlike, Binds, BindsTo, IsBound, IsBoundAfter, IsCoarse, IsLeastCount, IsOnlyCoarse, IsSomeOf, IsUnboundAfter}
pub use Rattle.range_runs.specs.Canonical.{IsCanonical}
pub use Rattle.range_runs.specs.Chains.{Follows, IsChain, Line, line_of}
pub use Rattle.range_runs.specs.Frames.{IsInsertionFrame, IsMergedInto}
pub use Rattle.range_runs.specs.Lookups.{BindsAllOf, IsPutInto, MeetAlso, MeetsSome, Overlap}
pub use Rattle.range_runs.specs.Pieces.{ArePieces, IsCommonPart, IsFreePart, IsPiece, LiesIn, earlier, later}
pub use Rattle.range_runs.specs.PieceLists.{between, free_piece, pieces_from, pieces_of}
pub use Rattle.range_runs.specs.Runs.{AreOverlapping, shown_item}
pub use Rattle.range_runs.specs.Stored.{IsStored, item_lower, item_upper}
pub use Rattle.range_runs.proofs.PlaceOrder.{both, cases, eq_ge, eq_le, le_lt_trans, le_refl, le_trans, lt_le, lt_le_trans, lt_not_le, lt_trans, not_le, not_lt}
pub use Rattle.range_bulk.specs.Appending.{LieBefore, appended}
pub use Rattle.range_merge.specs.Combining.{AreCombined, IsCombinedAt, MayAnswerBoth}
pub use Rattle.range_map.specs.Extending.{AreBoundAfter, item_of}
pub use Rattle.range_reads.specs.FreeRanges.{AreGaps, IsHeldOnce, free_from, full_range, item_ranges}
pub use Rattle.range_reads.specs.ListOrder.{IsCopyOf, list_cmp, lists_fed, lists_order, lists_tied, same_list}
pub use Rattle.range_map.specs.Overlays.{IsCopyOfValue, IsOverlaid, IsRestricted, IsSecondOrFirst, IsWithout, MayOverlay, first_where}
pub use Rattle.range_map.specs.PartWay.{AreUnboundAfter, BeforeOne, BeforeOneGap}
pub use Rattle.range_reads.specs.PieceLists.{AreGapsWithin, free_ranges}
pub use Rattle.range_map.specs.Rebinding.{AreRebound, IsRebound}
pub use Rattle.range_map.specs.Retaining.{BindOnlyAsBefore, CalledAtItem}
pub use Rattle.range_bulk.specs.Sorting.{IsFirstFault}
pub use Rattle.range_map.specs.Together.{BindKeysOf, LieInside, MeetNowhere, ShareNoKey}
pub use denote.Ref.{Bor}
