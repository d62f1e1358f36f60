-- What a map promises of a list of commands to it while it is new, and what the closure of updates
-- answers where the values are numbers.
use Rattle.std.specs.Prelude.{◌≡◌, ◌+ℤ◌, ◌↔◌, ⊤, ℕ, ℤ, Bool, IsTrue, List, length, Option, None, Some, Result, Ok, Err}
use Rattle.std.specs.Ordering.{int_eq}
use Rattle.btree_range_map.specs.AnyRange.{AnyRange}
use Rattle.btree_range_map.specs.Bindings.{IsCoarse, IsOnlyCoarse, IsLeastCount}
use Rattle.btree_range_map.specs.Command.{Command}
use Rattle.btree_range_map.specs.History.{BindOver}
use Rattle.btree_range_map.specs.Item.{Item}
use Rattle.btree_range_map.specs.Order.{KeyOrder}
use Rattle.btree_range_map.specs.Reply.{Reply}
use Rattle.odd_keys.specs.declared.promises.NoSum.{NoSum}

-- the tag is added to a number; where none is bound, the tag is
abbrev pub IsAdded : ℤ → Option ℤ → Result (Option ℤ) NoSum → Type 0
IsAdded tag None answer = answer ≡ Ok (Some tag)
IsAdded tag (Some number) (Ok answer) = answer ≡ Some (number +ℤ tag)
IsAdded tag (Some number) (Err no_sum) = ⊤

module _ {K : Type 0} (order : KeyOrder K) {V : Type 0} (same : V → V → Bool) where
  -- a key that was free is bound as the last command on it says that was not refused
  abbrev pub IsDecided : {T E : Type 0} → (T → Option V → Result (Option V) E → Type 0) → K
      → List (Command K V T) → List (Reply K V E) → Option V → Type 0
  IsDecided may k commands replies b =
      BindOver order same may k (λ free. free ≡ None) commands replies b

  -- the list is coarse, no other coarse list has its bindings, and no list with them is shorter
  pub record IsShortest (items : List (Item (AnyRange K) V)) (count : ℕ) : Type 0 where
    pub coarse : IsCoarse order same items
    pub only : IsOnlyCoarse order same items
    pub least : IsLeastCount order same items count
