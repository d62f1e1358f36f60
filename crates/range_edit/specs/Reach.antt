-- Which of the items that a range meets reach out of it, and all that is found before a change.
use Rattle.std.specs.Prelude.{◌≡◌, ◌+◌, ◌-◌, ◌<◌, ◌≤◌}
use Rattle.range_edit.specs.Common.{ℕ, Bool, List, length, slice_index_or, Option, Some, None, KeyOrder, position_cmp, AnyRange, Item, Le, Lt, lower, upper, rank_or_len, Ends, Reach, Surrounded, Apart, Window}
use Rattle.range_runs.specs.Stored.{item_lower, item_upper}
use Rattle.range_runs.specs.Window.{option_items, IsWindow}

module _ {K : Type 0} (order : KeyOrder K) {V : Type 0} {P : Type 0} (is_good : P → Type 0)
    (rank : P → ℕ) (items : List (Item (AnyRange K) V)) (r : AnyRange K) (index count : ℕ) where
  -- the first of the `count` items from the index on starts before the range, or none of them does
  abbrev pub ReachesBefore : Option P → Type 0
  ReachesBefore None = (x : Item (AnyRange K) V) → 0 < count → x ≡ slice_index_or items index x
      → Le (position_cmp order.cmp) (lower order r) (item_lower order x)
  ReachesBefore (Some p) =
      is_good p × (rank p ≡ index) × (0 < count)
      × ((x : Item (AnyRange K) V) → x ≡ slice_index_or items index x
      → Lt (position_cmp order.cmp) (item_lower order x) (lower order r))

  -- the last of them ends after the range, or none of them does
  abbrev pub ReachesAfter : Option P → Type 0
  ReachesAfter None = (x : Item (AnyRange K) V) → 0 < count
      → x ≡ slice_index_or items (index + count - 1) x
      → Le (position_cmp order.cmp) (item_upper order x) (upper order r)
  ReachesAfter (Some p) =
      is_good p × (rank p + 1 ≡ index + count) × (0 < count)
      × ((x : Item (AnyRange K) V) → x ≡ slice_index_or items (index + count - 1) x
      → Lt (position_cmp order.cmp) (upper order r) (item_upper order x))

module _ {K : Type 0} (order : KeyOrder K) {V : Type 0} {P : Type 0} {S : Type 0}
    (is_good : S → P → Type 0) (rank : S → P → ℕ) (items : S → List (Item (AnyRange K) V))
    (stored : S) (r : AnyRange K) (w : Window P) where
  -- the first item of the window, if it starts before the range
  abbrev pub IsFirstReaching : Option P → Type 0
  IsFirstReaching first =
      ReachesBefore order (is_good stored) (rank stored) (items stored) r
      (rank_or_len (rank stored) (length (items stored)) w.from) w.count first

  -- the last item of the window, if it ends after the range
  abbrev pub IsLastReaching : Option P → Type 0
  IsLastReaching last =
      ReachesAfter order (is_good stored) (rank stored) (items stored) r
      (rank_or_len (rank stored) (length (items stored)) w.from) w.count last

module _ {P : Type 0} where
  -- no item of the window reaches out of the range on both sides
  abbrev pub AreApart : Ends P → Type 0
  AreApart ends =
      length (option_items ends.first) + length (option_items ends.last) ≤ ends.window.count

  -- how many of its items lie within the range
  abbrev pub inner_count : Ends P → ℕ
  inner_count ends =
      ends.window.count - (length (option_items ends.first) + length (option_items ends.last))

  -- the window of which it is told
  abbrev pub window_of : Reach P → Window P
  window_of (Surrounded w p) = w
  window_of (Apart ends) = ends.window

module _ {K : Type 0} (order : KeyOrder K) {V : Type 0} (same : V → V → Bool) {P : Type 0} where
  -- the items that a range meets, of which the first and the last may reach out of it
  pub record AreEnds (is_good : P → Type 0) (rank : P → ℕ) (items : List (Item (AnyRange K) V))
      (r : AnyRange K) (ends : Ends P) (index : ℕ) : Type 0 where
    pub window : IsWindow order same is_good rank items r ends.window index
    pub first : ReachesBefore order is_good rank items r index ends.window.count ends.first
    pub last : ReachesAfter order is_good rank items r index ends.window.count ends.last
    pub apart : AreApart ends

  -- those of a container
  abbrev pub AreEndsOf : {S : Type 0} → (S → P → Type 0) → (S → P → ℕ)
      → (S → List (Item (AnyRange K) V)) → S → AnyRange K → Ends P → Type 0
  AreEndsOf is_good rank items stored r ends =
      AreEnds (is_good stored) (rank stored) (items stored) r ends
      (rank_or_len (rank stored) (length (items stored)) ends.window.from)

  -- the range lies within the one item that it meets, at the position
  pub record IsSurrounded (is_good : P → Type 0) (rank : P → ℕ) (items : List (Item (AnyRange K) V))
      (r : AnyRange K) (w : Window P) (index : ℕ) (p : P) : Type 0 where
    pub window : IsWindow order same is_good rank items r w index
    pub one : w.count ≡ 1
    pub good : is_good p
    pub here : rank p ≡ index
    pub starts : (x : Item (AnyRange K) V) → x ≡ slice_index_or items index x
        → Lt (position_cmp order.cmp) (item_lower order x) (lower order r)
    pub ends : (x : Item (AnyRange K) V) → x ≡ slice_index_or items index x
        → Lt (position_cmp order.cmp) (upper order r) (item_upper order x)

  abbrev pub IsSurroundedOf : {S : Type 0} → (S → P → Type 0) → (S → P → ℕ)
      → (S → List (Item (AnyRange K) V)) → S → AnyRange K → Window P → P → Type 0
  IsSurroundedOf is_good rank items stored r w p =
      IsSurrounded (is_good stored) (rank stored) (items stored) r w
      (rank_or_len (rank stored) (length (items stored)) w.from) p

  -- how the items that a range meets in a container reach out of it
  abbrev pub IsReachOf : {S : Type 0} → (S → P → Type 0) → (S → P → ℕ)
      → (S → List (Item (AnyRange K) V)) → S → AnyRange K → Reach P → Type 0
  IsReachOf is_good rank items stored r (Surrounded w p) =
      IsSurroundedOf is_good rank items stored r w p
  IsReachOf is_good rank items stored r (Apart ends) =
      AreEndsOf is_good rank items stored r ends
