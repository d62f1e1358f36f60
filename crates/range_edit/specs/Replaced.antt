-- What a list becomes where the keys of a range come to be bound as another list says.
use Rattle.std.specs.Prelude.{◌↔◌}
use Rattle.range_edit.specs.Common.{Every, Bool, List, Option, KeyOrder, Holds, AnyRange, Item}
use Rattle.range_runs.specs.Bindings.{Binds}
use Rattle.range_runs.specs.Frames.{IsMergeFrame, HasValue}
use Rattle.range_runs.specs.Pieces.{LiesIn}
use Rattle.range_runs.specs.Stored.{IsStored}

module _ {K : Type 0} (order : KeyOrder K) {V : Type 0} where
  -- each item lies in the range
  abbrev pub AreWithin : List (Item (AnyRange K) V) → AnyRange K → Type 0
  AreWithin items r = Every (λ i. LiesIn order i.key r) items

  module _ (same : V → V → Bool) where
    -- the keys of the range are bound as the middle says, and all others as before
    pub record IsReplaced (items new middle : List (Item (AnyRange K) V))
        (r : AnyRange K) : Type 0 where
      pub stored : IsStored order same new
      pub held : (k : K) → order.is_key k → Holds order r k → (b : Option V)
          → Binds order same new k b ↔ Binds order same middle k b
      pub others : (k : K) → order.is_key k → ¬ Holds order r k → (b : Option V)
          → Binds order same new k b ↔ Binds order same items k b
      pub frame : IsMergeFrame order same items new r (HasValue order same middle)
