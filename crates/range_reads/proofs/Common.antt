-- The names that several proofs of this crate cite, passed on from one place. Declares nothing.
pub use Rattle.std.proofs.Common.{List, Option, [], ap, arith, length, refl, sym, ◌++◌, ◌+◌, ◌∙◌, ◌∷◌, ◌≡◌}
pub use Rattle.std.proofs.lemmas.Bool.{false≢true}
pub use Rattle.std.proofs.lemmas.Grind.{common_steps}
pub use Rattle.std.proofs.lemmas.List.{append-nil, append_assoc, drop-drop, drop_more}
pub use Rattle.std.specs.List.{flat_map, fold}
pub use Rattle.range_keys.specs.Position.{end_position, start_position}
pub use Rattle.range_algebra.specs.Range.{IsEmptyRange}
pub use Rattle.range_algebra.specs.declared.any.AnyRange.{AnyRange}
pub use Rattle.range_store.specs.declared.storage.Item.{Item}
pub use Rattle.range_runs.proofs.Found.{apart_bound, bound_at, ends_upto, holds_at, item_at}
pub use Rattle.range_runs.proofs.Overlaps.{apart_meets, binding_meets, last_started_decides, meeting_binds}
pub use Rattle.range_runs.proofs.Tests.{not_both}
pub use Rattle.range_reads.specs.FreeRanges.{free_after}
pub use Rattle.range_reads.specs.ListOrder.{item_input, list_cmp, list_input, same_list}
pub use Rattle.range_reads.specs.PieceLists.{free_ranges, range_if_free}
