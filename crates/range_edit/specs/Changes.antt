-- What binding and unbinding a range make of a stored list.
use Rattle.range_edit.specs.Common.{Every, Bool, List, KeyOrder, AnyRange, Item}
use Rattle.range_runs.specs.Stored.{IsStored}
use Rattle.range_runs.specs.Lookups.{Overlap, MeetAlso}
use Rattle.range_runs.specs.Frames.{IsInsertionFrame, IsRemovalFrame}
use Rattle.range_runs.specs.Bindings.{IsBoundAfter, IsUnboundAfter}

module _ {K : Type 0} (order : KeyOrder K) {V : Type 0} (same : V → V → Bool) where
  pub record IsInserted (items new : List (Item (AnyRange K) V)) (r : AnyRange K)
      (v : V) : Type 0 where
    pub stored : IsStored order same new
    pub bound : IsBoundAfter order same items new r v
    pub frame : IsInsertionFrame order same items new r v
    pub meets : MeetAlso order items new r

  pub record IsRemoved (items new : List (Item (AnyRange K) V)) (r : AnyRange K) : Type 0 where
    pub stored : IsStored order same new
    pub unbound : IsUnboundAfter order same items new r
    pub apart : Every (λ i. ¬ Overlap order i.key r) new
    pub frame : IsRemovalFrame order same items new r
