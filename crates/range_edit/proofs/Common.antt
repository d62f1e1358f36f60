-- The names that several proofs of this crate cite, passed on from one place. Declares nothing.
pub use Rattle.std.proofs.Common.{Bool, Err, IsTrue, List, None, Ok, OnErr, OnOk, Option, Result, Some, [], ap, append_assoc, arith, drop, false, get_or, inl, inr, length, length-append, length-drop, map, refl, rules, subst, suc, sym, take, true, zero, ℕ, ◌&&◌, ◌*◌, ◌++◌, ◌+◌, ◌-◌, ◌<◌, ◌↔◌, ◌∙◌, ◌∷◌, ◌≡◌, ◌≤◌, ◌⊎◌}
pub use Rattle.std.proofs.Math.ListN.{length-set, set}
pub use Rattle.std.proofs.lemmas.Bool.{cases_lt, false≢true}
pub use Rattle.std.proofs.lemmas.Grind.{common_steps}
pub use Rattle.std.proofs.lemmas.List.{append-nil, drop-drop, drop-set, drop-set-lt, drop_at, drop_more, get_or-drop, get_or-take, get_or_read, length-take-le, take-set, take-set-le, take_at, take_more_set}
pub use Rattle.std.specs.Cmp.{IsEquivalence, tied_itself}
pub use Rattle.std.specs.Fn.{Shared}
pub use Rattle.std.specs.List.{AllByRecursion as Every}
pub use Rattle.std.specs.Option.{ForSome, unwrap_or}
pub use Rattle.std.specs.Ordering.{is_gt, ordering_then, partial_lt}
pub use Rattle.std.specs.Prelude.{IfSome, MatchOption, insert, option_copied, slice_get}
pub use Rattle.std.specs.declared.cmp.Ordering.{Ordering}
pub use Rattle.std.specs.declared.cmp.Ordering.TheVariants.{Equal, Greater, Less}
pub use Rattle.std.specs.declared.ops.Bound.{Bound}
pub use Rattle.std.specs.declared.ops.Bound.TheVariants.{Excluded, Included}
pub use Rattle.range_keys.proofs.Orderings.{less_or_not}
pub use Rattle.range_keys.specs.Order.{IsLawful, KeyOrder}
pub use Rattle.range_keys.specs.Position.{bound_of, end_position, position_cmp, start_position}
pub use Rattle.range_keys.specs.PositionOrder.{position_total}
pub use Rattle.range_keys.specs.declared.inner.position.Position.{Position}
pub use Rattle.range_keys.specs.declared.inner.position.Position.TheVariants.{Beside}
pub use Rattle.range_keys.specs.declared.inner.position.Side.TheVariants.{At}
pub use Rattle.range_algebra.proofs.Lists.{any_left, any_none, any_right, any_split, drop_all, every_append, every_at, every_left, every_right, every_weaker, list_is_take_and_drop}
pub use Rattle.range_algebra.proofs.Positions.{flipped_bound_is_past, held_between, reaching_is_before_past}
pub use Rattle.range_algebra.specs.Clones.{SameBound, same_itself}
pub use Rattle.range_algebra.specs.Compared.{flipped, starts_at_end}
pub use Rattle.range_algebra.specs.Cuts.{lower, past, upper}
pub use Rattle.range_algebra.specs.Intervals.{Any, Le, Lt}
pub use Rattle.range_algebra.specs.Range.{IsEmptyRange, IsBoundOfKey, IsKeyRange}
pub use Rattle.range_algebra.specs.Relations.{LiesBefore, Touches}
pub use Rattle.range_algebra.specs.declared.any.AnyRange.{AnyRange}
pub use Rattle.range_store.proofs.ListRanks.{at_place, good_at, kept_at, place_at}
pub use Rattle.range_store.specs.ListRanks.{IsAt, rank_or_len}
pub use Rattle.range_store.specs.declared.storage.Item.{Item}
pub use Rattle.range_runs.proofs.PlaceOrder.{PLe, PLt, both, eq_ge, eq_le, le_lt_trans, le_refl, le_trans, lt_le, lt_le_trans, lt_not_le, lt_trans, not_le, not_lt}
pub use Rattle.range_runs.specs.Answers.{Answered, AnswersPiece, AreAnswersTo, IsAsAnswered, IsGathered, IsGivenBy, IsUpdated, MayAnswer, SucceedsAtFirst, piece_of}
pub use Rattle.range_runs.specs.Bindings.{Binds, IsSomeOf}
pub use Rattle.range_edit.specs.Borders.{BorderSide, IsBorderShape, IsDivided, IsGoodBorder, IsLeftEdited, IsLeftShape, IsRightEdited, IsRightShape, IsRunStart, TouchesAfter, TouchesBefore, TouchesNoneAfter, TouchesNoneBefore, border_at, joined_count, joined_item, left_side, right_side, seam_border}
pub use Rattle.range_runs.specs.Chains.{Has, IsBoundTo, IsChain, IsLeft, IsRight, IsFilledWith, Leading, Line, line_of}
pub use Rattle.range_edit.specs.Changes.{IsInserted, IsRemoved}
pub use Rattle.range_runs.specs.Edits.{flipped_bound, with_end, with_start}
pub use Rattle.range_runs.specs.Frames.{HasValue, IsEndOf, IsInsertionFrame, IsMergeFrame, IsMergedInto, IsNewItem, IsPart, IsRemovalFrame, IsSpliceFrame, IsStartOf, IsUpdateFrame, JoinsOrMeets}
pub use Rattle.range_runs.specs.Lookups.{IsConnectedTo, IsConnectedToSome, MeetsSome, Overlap}
pub use Rattle.range_runs.specs.Pieces.{ArePieces, IsCommonPart, LiesIn}
pub use Rattle.range_edit.specs.Reach.{AreEnds, IsSurrounded, ReachesAfter, ReachesBefore}
pub use Rattle.range_edit.specs.Replaced.{AreWithin, IsReplaced}
pub use Rattle.range_edit.specs.Seams.{with_first_start, with_last_end}
pub use Rattle.range_runs.specs.Spelling.{IsEndAsIn, IsSpelledAsIn, IsStartAsIn, KeepsSpelling}
pub use Rattle.range_runs.specs.Stored.{IsStored, item_lower, item_upper}
pub use Rattle.range_runs.specs.Window.{IsFound, IsJustBefore, IsWindow, option_items}
pub use Rattle.range_edit.specs.declared.borders.Border.{Border}
pub use Rattle.range_edit.specs.declared.borders.Border.TheVariants.{Cut, Joined, Plain}
pub use Rattle.range_runs.specs.declared.window.Window.{Window}
pub use denote.Ref.{Bor}
