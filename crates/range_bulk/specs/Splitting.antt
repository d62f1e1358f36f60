-- What a list binds below a key, and what from it on.
use Rattle.std.specs.Prelude.{◌↔◌, ◌+◌, ◌≤◌, Bool, Option, List, length}
use Rattle.range_bulk.specs.Common.{KeyOrder, Below, NotAbove, AnyRange, Item, Binds, IsBound, IsStored}

module _ {K : Type 0} (order : KeyOrder K) {V : Type 0} (same_value : V → V → Bool) where
  -- the one list binds the keys below one as before, the other those from it on, and no others
  pub record IsSplitAt (key : K) (before front back : List (Item (AnyRange K) V)) : Type 0 where
    pub below : (k : K) → order.is_key k → Below order k key → (b : Option V)
        → Binds order same_value front k b ↔ Binds order same_value before k b
    pub from : (k : K) → order.is_key k → NotAbove order key k → (b : Option V)
        → Binds order same_value back k b ↔ Binds order same_value before k b
    pub none_from : (k : K) → order.is_key k → NotAbove order key k → ¬ IsBound order front k
    pub none_below : (k : K) → order.is_key k → Below order k key → ¬ IsBound order back k

  -- both lists are in the map's form, and have one item more than before at most
  pub record IsStoredSplit (key : K) (before front back : List (Item (AnyRange K) V)) : Type 0 where
    pub split : IsSplitAt key before front back
    pub front_form : IsStored order same_value front
    pub back_form : IsStored order same_value back
    pub few : length front + length back ≤ length before + 1
