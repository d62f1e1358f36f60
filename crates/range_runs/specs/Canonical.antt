-- The form in which every call leaves a map, a set or a multimap.
use Rattle.range_runs.specs.Common.{Bool, List, length, KeyOrder, AnyRange, Item}
use Rattle.range_keys.specs.Order.{IsComplete}
use Rattle.range_runs.specs.Bindings.{IsCoarse, IsOnlyCoarse, IsLeastCount}
use Rattle.range_runs.specs.Stored.{IsStored}

module _ {K : Type 0} (order : KeyOrder K) {V : Type 0} (same_value : V → V → Bool) where
  -- stored in order; over complete keys the only coarse list with its bindings, and no list with
  -- them has fewer ranges
  pub record IsCanonical (items : List (Item (AnyRange K) V)) : Type 0 where
    pub stored : IsStored order same_value items
    pub coarse : IsComplete order → IsCoarse order same_value items
    pub only : IsComplete order → IsOnlyCoarse order same_value items
    pub least : IsComplete order → IsLeastCount order same_value items (length items)
