-- The names that several proofs of this crate cite, passed on from one place. Declares nothing.
pub use Rattle.std.proofs.Common.{Bool, Err, IsTrue, List, None, Ok, OnOk, Option, Result, Some, [], ap, append_assoc, arith, drop, false, get_or, if◌then◌else◌, inl, inr, length, length-append, length-drop, map, not, refl, rules, subst, suc, sym, take, true, zero, ℕ, ◌++◌, ◌+◌, ◌-◌, ◌<◌, ◌||◌, ◌↔◌, ◌∙◌, ◌∷◌, ◌≡◌, ◌≤◌, ◌⊎◌}
pub use Rattle.std.proofs.lemmas.Bool.{true≢false}
pub use Rattle.std.proofs.lemmas.Grind.{common_steps}
pub use Rattle.std.proofs.lemmas.List.{append-nil, drop-drop, drop-take, drop_more, get_or-drop, get_or_read, map-append, take_more}
pub use Rattle.std.specs.Cmp.{Equal-is, IsEquivalence, tied_back, tied_itself}
pub use Rattle.std.specs.Fn.{Shared}
pub use Rattle.std.specs.List.{AllByRecursion as Every}
pub use Rattle.std.specs.Option.{is_some, option_map}
pub use Rattle.std.specs.Ordering.{is_eq, is_gt, is_le, is_lt}
pub use Rattle.std.specs.Prelude.{MatchOption, option_copied, slice_set}
pub use Rattle.std.specs.declared.cmp.Ordering.{Ordering}
pub use Rattle.std.specs.declared.cmp.Ordering.TheVariants.{Equal, Greater, Less}
pub use Rattle.std.specs.declared.ops.Bound.{Bound}
pub use Rattle.std.specs.declared.ops.Bound.TheVariants.{Excluded, Included, Unbounded}
pub use Rattle.range_keys.proofs.Orderings.{eq_is_equal, equal_then_equal, less_then_any, less_unless_equal, less_unless_greater, less_unless_less, lt_is_less, not_both_greater_and_not, not_greater}
pub use Rattle.range_keys.specs.Directed.{reference_position}
pub use Rattle.range_keys.specs.Order.{IsComplete, IsLawful, KeyOrder, SameAnswer, Tells}
pub use Rattle.range_keys.specs.Position.{at_known, bound_of, end_position, position_cmp, start_position}
pub use Rattle.range_keys.specs.PositionOrder.{position_total}
pub use Rattle.range_keys.specs.declared.inner.position.Position.{Position}
pub use Rattle.range_keys.specs.declared.inner.position.Position.TheVariants.{Beside, MinusInfinity, PlusInfinity}
pub use Rattle.range_keys.specs.declared.inner.position.Side.TheVariants.{After, At, Before}
pub use Rattle.range_algebra.proofs.Commons.{common_known, earlier_is, gt_le, later_is}
pub use Rattle.range_algebra.proofs.Lists.{any_left, any_none, any_right, any_split, drop_all, every_append, every_at, every_drop, every_left, every_right, every_take, every_weaker, list_is_take_and_drop}
pub use Rattle.range_algebra.proofs.Positions.{flipped_back, flipped_bound_is_past, flipped_known, held_between, reaching_is_before_past, unbounded_end, unbounded_start}
pub use Rattle.range_algebra.specs.Clones.{IsBoundClone, SameBound, bound_clone, same_end, same_itself, same_start}
pub use Rattle.range_algebra.specs.Combined.{common}
pub use Rattle.range_algebra.specs.Compared.{flipped, is_before, start_is_at, starts_at_end, starts_past_end}
pub use Rattle.range_algebra.specs.Cuts.{lower, past, upper}
pub use Rattle.range_algebra.specs.Intervals.{Any, Le, Lt}
pub use Rattle.range_algebra.specs.Range.{Holds, IsEmptyRange, IsBoundOfKey, IsKeyRange, with_bounds}
pub use Rattle.range_algebra.specs.References.{range_of}
pub use Rattle.range_algebra.specs.Relations.{LiesBefore, Touches}
pub use Rattle.range_algebra.specs.declared.any.AnyRange.{AnyRange}
pub use Rattle.range_store.proofs.ListRanks.{place_at}
pub use Rattle.range_store.specs.ListRanks.{IsAt, IsFrontOf, rank_or_len}
pub use Rattle.range_store.specs.declared.storage.Item.{Item}
pub use Rattle.range_runs.proofs.PlaceOrder.{PLe, PLt, both, cases, eq_ge, eq_le, le_lt_trans, le_refl, le_trans, lt_le, lt_le_trans, lt_not_le, lt_trans, not_le, not_lt}
pub use Rattle.range_runs.specs.Answers.{Answered, AnswersPiece, IsAsAnswered, IsGathered, MayAnswer, MayBeAsked, piece_of}
pub use Rattle.range_runs.specs.Bindings.{Binds, BindsTo, IsBound, IsBoundAfter, IsItemFor, IsSomeOf, IsStoredFor, IsUnboundAfter}
pub use Rattle.range_runs.specs.Chains.{Follows, Has, Held, IsBoundTo, IsChain, IsLeft, IsMade, IsRight, IsFilledWith, IsUnbound, Leading, Leads, Line, Respects, line_of}
pub use Rattle.range_runs.specs.Edits.{flipped_bound, with_end}
pub use Rattle.range_runs.specs.Lookups.{BindsKeyOf, MeetAlso, MeetsSome, Overlap}
pub use Rattle.range_runs.specs.Neighbours.{EachNext}
pub use Rattle.range_runs.specs.PieceLists.{between, bound_piece, free_between, free_piece, pieces_from, pieces_of}
pub use Rattle.range_runs.specs.Pieces.{ArePieces, IsCommonPart, IsFreePart, IsPiece, LiesIn, earlier, later}
pub use Rattle.range_runs.specs.Put.{IsPut, JoinsNoLast}
pub use Rattle.range_runs.specs.Runs.{AreOverlapping}
pub use Rattle.range_runs.specs.Spelling.{IsEndAsIn, IsSpelledAsIn, IsStartAsIn, KeepsSpelling}
pub use Rattle.range_runs.specs.Stored.{IsFollowedBy, IsStored, item_lower, item_upper}
pub use Rattle.range_runs.specs.Window.{IsFound, IsJustBefore, IsLastOf, IsLastStarting, IsWalk, IsWindow, index_after}
pub use Rattle.range_runs.specs.declared.window.Window.{Window}
pub use denote.Ref.{Bor}
