-- The names that several definitions cite, passed on from one place. Declares nothing.
pub use Rattle.std.specs.Borrow.{Bor}
pub use Rattle.std.specs.Fn.{Called, FnReturnsAt, Mut, Shared}
pub use Rattle.std.specs.List.{AllZip, AllByRecursion as Every}
pub use Rattle.range_keys.specs.Order.{KeyOrder}
pub use Rattle.range_algebra.specs.Intervals.{Any}
pub use Rattle.range_algebra.specs.Range.{HoldSame, Holds, IsEmptyRange}
pub use Rattle.range_algebra.specs.declared.any.AnyRange.{AnyRange}
pub use Rattle.range_store.specs.declared.storage.Item.{Item}
pub use Rattle.range_runs.specs.Answers.{IsAsAnswered, MayBeAsked}
pub use Rattle.range_runs.specs.Bindings.{BindAlike, Binds, IsBound, IsBoundAfter, IsSomeOf, IsStoredFor, IsUnboundAfter}
pub use Rattle.range_runs.specs.Lookups.{MeetsSome}
pub use Rattle.range_runs.specs.Pieces.{LiesIn}
