-- Which items a range that is bound joins.
use Rattle.std.specs.Prelude.{◌≡◌, ◌+◌, ◌-◌, ◌<◌}
use Rattle.range_edit.specs.Common.{ℕ, Bool, true, List, length, slice_index_or, Option, Some, None, KeyOrder, position_cmp, lower, upper, Le, Lt, AnyRange, Item, rank_or_len, Ends}
use Rattle.range_runs.specs.Stored.{item_lower, item_upper}
use Rattle.range_runs.specs.Window.{option_items}

module _ {K : Type 0} (order : KeyOrder K) {V : Type 0} (same : V → V → Bool) {P : Type 0}
    (is_good : P → Type 0) (rank : P → ℕ) (items : List (Item (AnyRange K) V)) (r : AnyRange K)
    (v : V) where
  -- the last of the first `begin` items, if it reaches the range with an equal value
  abbrev pub IsJoinedLeft : ℕ → Option P → Type 0
  IsJoinedLeft begin None = (d : Item (AnyRange K) V) → let x =
      slice_index_or items (begin - 1) d in 0 < begin
      → Le (position_cmp order.cmp) (lower order r) (item_upper order x) → same x.value v ≡ true → ⊥
  IsJoinedLeft begin (Some q) =
      is_good q × (rank q + 1 ≡ begin)
      × ((d : Item (AnyRange K) V) → let x =
      slice_index_or items (rank q) d in Le (position_cmp order.cmp) (item_lower order x)
      (lower order r)
      × Le (position_cmp order.cmp) (lower order r) (item_upper order x) × (same x.value v ≡ true))

  -- the item at the index, if the range reaches it with an equal value
  abbrev pub IsJoinedRight : ℕ → Option P → Type 0
  IsJoinedRight index None = (d : Item (AnyRange K) V) → let x =
      slice_index_or items index d in index < length items
      → Le (position_cmp order.cmp) (item_lower order x) (upper order r) → same x.value v ≡ true → ⊥
  IsJoinedRight index (Some q) =
      is_good q × (rank q ≡ index)
      × ((d : Item (AnyRange K) V) → let x =
      slice_index_or items (rank q) d in Le (position_cmp order.cmp) (item_lower order x)
      (upper order r)
      × Lt (position_cmp order.cmp) (upper order r) (item_upper order x) × (same x.value v ≡ true))

module _ {K : Type 0} (order : KeyOrder K) {V : Type 0} (same : V → V → Bool) {P : Type 0}
    {S : Type 0} (is_good : S → P → Type 0) (rank : S → P → ℕ)
    (items : S → List (Item (AnyRange K) V)) (stored : S) (r : AnyRange K) (v : V)
    (ends : Ends P) where
  -- the item that the range joins where it starts: the one that reaches out of it, or else the one
  -- before
  abbrev pub JoinsBefore : Option P → Type 0
  JoinsBefore = IsJoinedLeft order same (is_good stored) (rank stored) (items stored) r v
      (rank_or_len (rank stored) (length (items stored)) ends.window.from
      + length (option_items ends.first))

  -- the one that it joins where it ends
  abbrev pub JoinsAfter : Option P → Type 0
  JoinsAfter = IsJoinedRight order same (is_good stored) (rank stored) (items stored) r v
      (rank_or_len (rank stored) (length (items stored)) ends.window.from + ends.window.count
      - length (option_items ends.last))
