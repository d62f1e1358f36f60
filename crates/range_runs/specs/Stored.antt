-- The form in which a map keeps its list, and the positions of a stored item.
use Rattle.range_runs.specs.Common.{Bool, IsTrue, List, KeyOrder, IsEmptyRange, IsKeyRange, range_ordering, is_before, AnyRange, Item, Position, lower, upper}
use Rattle.std.specs.List.{AllByRecursion}
use Rattle.range_runs.specs.Neighbours.{EachNext}

module _ {K : Type 0} (order : KeyOrder K) {V : Type 0} (same_value : V → V → Bool) where
  -- the one lies before the other, and they touch only where their values differ
  abbrev pub IsFollowedBy : Item (AnyRange K) V → Item (AnyRange K) V → Type 0
  IsFollowedBy i j =
      IsTrue (is_before (range_ordering order i.key j.key) (same_value i.value j.value))

  -- nonempty ranges of keys, each before the next, which touch only where values differ
  pub record IsStored (items : List (Item (AnyRange K) V)) : Type 0 where
    pub known : AllByRecursion (λ i. IsKeyRange order i.key) items
    pub nonempty : AllByRecursion (λ i. ¬ IsEmptyRange order i.key) items
    pub rising : EachNext IsFollowedBy items

module _ {K : Type 0} (order : KeyOrder K) where
  -- the position at which its range starts
  abbrev pub item_lower : {V : Type 0} → Item (AnyRange K) V → Position K
  item_lower i = lower order i.key

  -- the position past its range's end
  abbrev pub item_upper : {V : Type 0} → Item (AnyRange K) V → Position K
  item_upper i = upper order i.key
