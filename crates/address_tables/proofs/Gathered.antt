-- Values that are gathered range by range.
use Rattle.std.proofs.Common.{◌≡◌, Bool, List, [], ◌∷◌, ◌++◌, map, Option, Some, None, IfSome, ◌∙◌, append_assoc}
use Rattle.std.specs.List.{AllByRecursion}
use Rattle.btree_range_map.specs.AnyRange.{AnyRange}
use Rattle.btree_range_map.specs.Item.{Item}
use Rattle.address_tables.specs.Numbers.{AreAmong, IsAmong}

module _ {V : Type 0} (same_value : V → V → Bool) where
  -- all values of the one list are among the other
  abbrev pub Contains : List V → List V → Type 0
  Contains more values = (v : V) → IsAmong same_value values v → IsAmong same_value more v

  other_more : (values more : List V) (otherwise : Option V) → Contains more values
      → IfSome otherwise (IsAmong same_value values) → IfSome otherwise (IsAmong same_value more)
  other_more values more None contains other = other
  other_more values more (Some v) contains other = contains v other

module _ {A V : Type 0} (same_value : V → V → Bool) where
  -- the values of all ranges but those that are left are there, and the other one
  pub record AreGathered (values : List V) (otherwise : Option V)
      (left all : List (Item (AnyRange A) V)) : Type 0 where
    pub other : IfSome otherwise (IsAmong same_value values)
    pub items : (more : List V) → Contains same_value more values
        → AllByRecursion (λ i. IsAmong same_value more i.value) left
        → AllByRecursion (λ i. IsAmong same_value more i.value) all

  pub gathered_first : (values : List V) (otherwise : Option V)
      (all : List (Item (AnyRange A) V)) → IfSome otherwise (IsAmong same_value values)
      → AreGathered values otherwise all all
  gathered_first values otherwise all other =
      record { other = other; items = λ more contains is. is }

  pub gathered_next : (values more : List V) (otherwise : Option V) (i : Item (AnyRange A) V)
      (left all : List (Item (AnyRange A) V)) → Contains same_value more values
      → IsAmong same_value more i.value → AreGathered values otherwise (i ∷ left) all
      → AreGathered more otherwise left all
  gathered_next values more otherwise i left all contains here is =
      record {
        other = other_more same_value values more otherwise contains is.other;
        items = λ most holds others.
            is.items most (λ v has. holds v (contains v has)) (holds i.value here, others);
      }

  pub gathered_all : (values : List V) (otherwise : Option V) (all : List (Item (AnyRange A) V))
      → AreGathered values otherwise [] all → AreAmong same_value values otherwise all
  gathered_all values otherwise all is = (is.other, is.items values (λ v has. has) tt)
