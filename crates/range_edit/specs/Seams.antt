-- Which items a list joins that comes to stand in a range.
use Rattle.std.specs.Prelude.{◌≡◌, ◌+◌, ◌-◌, ◌∷◌, ◌⊎◌}
use Rattle.range_edit.specs.Common.{ℕ, Bool, List, [], length, Option, Some, None, Equal, Bound, KeyOrder, position_cmp, lower, upper, Lt, AnyRange, Item, rank_or_len, Ends}
use Rattle.range_edit.specs.Plans.{IsJoinedLeft, IsJoinedRight}
use Rattle.range_runs.specs.Edits.{with_start, with_end}
use Rattle.range_runs.specs.Stored.{item_lower, item_upper}
use Rattle.range_runs.specs.Window.{option_items}

module _ {K V : Type 0} where
  -- the first item starts at the bound, if there are both
  abbrev pub with_first_start : Option (Bound K) → List (Item (AnyRange K) V)
      → List (Item (AnyRange K) V)
  with_first_start None items = items
  with_first_start (Some b) [] = []
  with_first_start (Some b) (i ∷ rest) = with_start i b ∷ rest

  -- the last item ends at the bound, if there are both
  abbrev pub with_last_end : Option (Bound K) → List (Item (AnyRange K) V)
      → List (Item (AnyRange K) V)
  with_last_end None items = items
  with_last_end (Some b) [] = []
  with_last_end (Some b) (i ∷ []) = with_end i b ∷ []
  with_last_end (Some b) (i ∷ j ∷ rest) = i ∷ with_last_end (Some b) (j ∷ rest)

module _ {K : Type 0} (order : KeyOrder K) {V : Type 0} (same : V → V → Bool) {P : Type 0}
    (is_good : P → Type 0) (rank : P → ℕ) (items : List (Item (AnyRange K) V)) (r : AnyRange K)
    (index : ℕ) where
  -- an item that starts where the range does may join, and before any other nothing does
  abbrev pub IsFirstSeam : Option (Item (AnyRange K) V) → Option P → Type 0
  IsFirstSeam next found =
      ((m : Item (AnyRange K) V) × (next ≡ Some m)
      × (position_cmp order.cmp (item_lower order m) (lower order r) ≡ Equal)
      × IsJoinedLeft order same is_good rank items r m.value index found)
      ⊎ (((m : Item (AnyRange K) V) → next ≡ Some m
      → Lt (position_cmp order.cmp) (lower order r) (item_lower order m)) × (found ≡ None))

  -- so may one that ends where it does
  abbrev pub IsLastSeam : Option (Item (AnyRange K) V) → Option P → Type 0
  IsLastSeam previous found =
      ((m : Item (AnyRange K) V) × (previous ≡ Some m)
      × (position_cmp order.cmp (item_upper order m) (upper order r) ≡ Equal)
      × IsJoinedRight order same is_good rank items r m.value index found)
      ⊎ (((m : Item (AnyRange K) V) → previous ≡ Some m
      → Lt (position_cmp order.cmp) (item_upper order m) (upper order r)) × (found ≡ None))

module _ {K : Type 0} (order : KeyOrder K) {V : Type 0} (same : V → V → Bool) {P : Type 0}
    {S : Type 0} (is_good : S → P → Type 0) (rank : S → P → ℕ)
    (items : S → List (Item (AnyRange K) V)) (stored : S) (r : AnyRange K) (ends : Ends P) where
  -- the item that the first of a run is to join, where there is one
  abbrev pub IsJoiningFirst : Option (Item (AnyRange K) V) → Option P → Type 0
  IsJoiningFirst = IsFirstSeam order same (is_good stored) (rank stored) (items stored) r
      (rank_or_len (rank stored) (length (items stored)) ends.window.from
      + length (option_items ends.first))

  -- the item that the last of a run is to join, where there is one
  abbrev pub IsJoiningLast : Option (Item (AnyRange K) V) → Option P → Type 0
  IsJoiningLast = IsLastSeam order same (is_good stored) (rank stored) (items stored) r
      (rank_or_len (rank stored) (length (items stored)) ends.window.from + ends.window.count
      - length (option_items ends.last))
