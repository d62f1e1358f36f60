-- Which sets are made of two sets or of one, and what two sets are asked.
use Rattle.std.specs.Prelude.{List, Option, Some, ⊤}
use Rattle.btree_range_map.specs.AnyRange.{AnyRange}
use Rattle.btree_range_map.specs.Item.{Item}
use Rattle.btree_range_map.specs.KeySets.{HoldsTheOthers}
use Rattle.btree_range_map.specs.Names.{u64_order, i64_order}
use Rattle.btree_range_map.specs.Order.{KeyOrder}
use Rattle.btree_range_map.specs.Together.{BindKeysOf, ShareNoKey}
use Rattle.btree_range_map.specs.TwoSets.{HoldsEither, HoldsBoth, HoldsFirstAlone, HoldsJustOne}
use Rattle.address_keys.specs.Addresses.{ipv6_order}
use Rattle.range_handles.specs.declared.collection.Collection.{Collection}
use Rattle.range_handles.specs.declared.collection.Collection.TheVariants.{Set, SignedSet, WideSet}
use Rattle.range_handles.specs.declared.kept_set.algebra.Join.{Join}
use Rattle.range_handles.specs.declared.kept_set.algebra.Join.TheVariants.{Union, Intersection, Difference, SymmetricDifference}

-- a set of keys of any kind is held
abbrev pub HoldsAnySet : Option Collection → Type 0
HoldsAnySet (Some (Set items)) = ⊤
HoldsAnySet (Some (SignedSet items)) = ⊤
HoldsAnySet (Some (WideSet items)) = ⊤
HoldsAnySet _ = ⊥

-- two sets of one kind
abbrev pub AreSetsOfOneKind : Option Collection → Option Collection → Type 0
AreSetsOfOneKind (Some (Set items)) (Some (Set others)) = ⊤
AreSetsOfOneKind (Some (SignedSet items)) (Some (SignedSet others)) = ⊤
AreSetsOfOneKind (Some (WideSet items)) (Some (WideSet others)) = ⊤
AreSetsOfOneKind _ _ = ⊥

-- the third list holds those keys of two lists that the join says
abbrev pub IsJoin : {K : Type 0} → Join → KeyOrder K → List (Item (AnyRange K) (Unit {0}))
    → List (Item (AnyRange K) (Unit {0})) → List (Item (AnyRange K) (Unit {0})) → Type 0
IsJoin Union order items others new = HoldsEither order items others new
IsJoin Intersection order items others new = HoldsBoth order items others new
IsJoin Difference order items others new = HoldsFirstAlone order items others new
IsJoin SymmetricDifference order items others new = HoldsJustOne order items others new

-- the third is a set of those keys of two sets that the join says
abbrev pub IsJoinOf : Join → Option Collection → Option Collection → Option Collection → Type 0
IsJoinOf join (Some (Set items)) (Some (Set others)) (Some (Set new)) =
    IsJoin join u64_order items others new
IsJoinOf join (Some (SignedSet items)) (Some (SignedSet others)) (Some (SignedSet new)) =
    IsJoin join i64_order items others new
IsJoinOf join (Some (WideSet items)) (Some (WideSet others)) (Some (WideSet new)) =
    IsJoin join ipv6_order items others new
IsJoinOf _ _ _ _ = ⊥

-- the second is a set of just the keys that are not in the first
abbrev pub IsComplementOf : Option Collection → Option Collection → Type 0
IsComplementOf (Some (Set items)) (Some (Set new)) = HoldsTheOthers u64_order items new
IsComplementOf (Some (SignedSet items)) (Some (SignedSet new)) =
    HoldsTheOthers i64_order items new
IsComplementOf (Some (WideSet items)) (Some (WideSet new)) =
    HoldsTheOthers ipv6_order items new
IsComplementOf _ _ = ⊥

-- each key of the first set is in the second
abbrev pub IsSubsetOf : Option Collection → Option Collection → Type 0
IsSubsetOf (Some (Set items)) (Some (Set others)) = BindKeysOf u64_order items others
IsSubsetOf (Some (SignedSet items)) (Some (SignedSet others)) = BindKeysOf i64_order items others
IsSubsetOf (Some (WideSet items)) (Some (WideSet others)) = BindKeysOf ipv6_order items others
IsSubsetOf _ _ = ⊥

-- no key is in both sets
abbrev pub AreDisjoint : Option Collection → Option Collection → Type 0
AreDisjoint (Some (Set items)) (Some (Set others)) = ShareNoKey u64_order items others
AreDisjoint (Some (SignedSet items)) (Some (SignedSet others)) = ShareNoKey i64_order items others
AreDisjoint (Some (WideSet items)) (Some (WideSet others)) = ShareNoKey ipv6_order items others
AreDisjoint _ _ = ⊥
