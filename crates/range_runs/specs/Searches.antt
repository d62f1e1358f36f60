-- Which item of an ascending list an element belongs to.
use Rattle.std.specs.Prelude.{◌+◌, ◌<◌}
use Rattle.range_runs.specs.Common.{ℕ, Bool, IsTrue, List, length, slice_index_or, AllWithin, KeyOrder, range_ordering, is_before, AnyRange, Item}

module _ {K : Type 0} (order : KeyOrder K) (element : AnyRange K) (connected : Bool) where
  -- the element lies before the range, and apart from it where touching counts as meeting
  abbrev pub ElementIsBefore : AnyRange K → Type 0
  ElementIsBefore r = IsTrue (is_before (range_ordering order element r) connected)

  -- the element is not before the item at the index, and is before each after it
  pub record IsLastNotAfter {V : Type 0} (items : List (Item (AnyRange K) V))
      (at : ℕ) : Type 0 where
    pub in_range : at < length items
    pub reached : (d : Item (AnyRange K) V) → ¬ ElementIsBefore (slice_index_or items at d).key
    pub behind : AllWithin (λ i. ElementIsBefore i.key) items (at + 1) (length items)
