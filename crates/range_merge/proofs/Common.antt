-- The names that several proofs of this crate cite, passed on from one place. Declares nothing.
pub use Rattle.std.specs.Cmp.{IsEquivalence}
pub use Rattle.std.specs.Fn.{Shared}
pub use Rattle.std.specs.List.{AllByRecursion as Every}
pub use Rattle.std.specs.Option.{option_copied, option_map}
pub use Rattle.std.specs.declared.cmp.Ordering.{Ordering}
pub use Rattle.std.specs.declared.cmp.Ordering.TheVariants.{Equal}
pub use Rattle.std.specs.declared.ops.Bound.{Bound}
pub use Rattle.range_keys.specs.Order.{IsLawful, KeyOrder}
pub use Rattle.range_keys.specs.Position.{position_cmp}
pub use Rattle.range_keys.specs.declared.inner.position.Position.{Position}
pub use Rattle.range_keys.specs.declared.inner.position.Position.TheVariants.{Beside}
pub use Rattle.range_keys.specs.declared.inner.position.Side.TheVariants.{At}
pub use Rattle.range_algebra.proofs.Lists.{any_left, any_none, any_split, every_append, every_weaker}
pub use Rattle.range_algebra.specs.Clones.{IsBoundClone, SameBound}
pub use Rattle.range_algebra.specs.Cuts.{lower, upper}
pub use Rattle.range_algebra.specs.Intervals.{Any, Le, Lt}
pub use Rattle.range_algebra.specs.Range.{Holds, IsKeyRange}
pub use Rattle.range_algebra.specs.References.{range_of}
pub use Rattle.range_algebra.specs.Relations.{LiesBefore}
pub use Rattle.range_algebra.specs.declared.any.AnyRange.{AnyRange}
pub use Rattle.range_store.specs.declared.storage.Item.{Item}
pub use Rattle.range_runs.specs.Answers.{Answered, IsAsAnswered}
pub use Rattle.range_runs.specs.Bindings.{Binds, BindsTo, IsBound}
pub use Rattle.range_runs.specs.Chains.{line_of}
pub use Rattle.range_runs.specs.Pieces.{LiesIn}
pub use Rattle.range_runs.specs.Stored.{IsStored}
pub use denote.Ref.{Bor}
