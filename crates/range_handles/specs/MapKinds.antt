-- Which two collections make a map, and which map they make.
use Rattle.std.specs.Prelude.{ℕ, List, nat_eq, Option, Some, ⊤}
use Rattle.btree_range_map.specs.AnyRange.{AnyRange}
use Rattle.btree_range_map.specs.Item.{Item}
use Rattle.btree_range_map.specs.Names.{u64_order, i64_order}
use Rattle.btree_range_map.specs.Order.{KeyOrder}
use Rattle.btree_range_map.specs.Overlays.{IsOverlaid, IsRestricted, IsWithout}
use Rattle.address_keys.specs.Addresses.{ipv6_order}
use Rattle.range_handles.specs.declared.collection.Collection.{Collection}
use Rattle.range_handles.specs.declared.collection.Collection.TheVariants.{Unsigned, Signed, Set, SignedSet, Wide, WideSet}
use Rattle.range_handles.specs.declared.kept_map.together.Part.{Part}
use Rattle.range_handles.specs.declared.kept_map.together.Part.TheVariants.{Shared, Rest}

-- two maps of one kind
abbrev pub AreMapsOfOneKind : Option Collection → Option Collection → Type 0
AreMapsOfOneKind (Some (Unsigned items)) (Some (Unsigned others)) = ⊤
AreMapsOfOneKind (Some (Signed items)) (Some (Signed others)) = ⊤
AreMapsOfOneKind (Some (Wide items)) (Some (Wide others)) = ⊤
AreMapsOfOneKind _ _ = ⊥

-- a map, and one of the same kind or a set of its keys
abbrev pub AreMapAndKeys : Option Collection → Option Collection → Type 0
AreMapAndKeys (Some (Unsigned items)) (Some (Unsigned others)) = ⊤
AreMapAndKeys (Some (Unsigned items)) (Some (Set others)) = ⊤
AreMapAndKeys (Some (Signed items)) (Some (Signed others)) = ⊤
AreMapAndKeys (Some (Signed items)) (Some (SignedSet others)) = ⊤
AreMapAndKeys (Some (Wide items)) (Some (Wide others)) = ⊤
AreMapAndKeys (Some (Wide items)) (Some (WideSet others)) = ⊤
AreMapAndKeys _ _ = ⊥

-- the third is a map that binds each key as the second does, or else as the first does
abbrev pub IsOverlayOf : Option Collection → Option Collection → Option Collection → Type 0
IsOverlayOf (Some (Unsigned items)) (Some (Unsigned others)) (Some (Unsigned new)) =
    IsOverlaid u64_order nat_eq items others new
IsOverlayOf (Some (Signed items)) (Some (Signed others)) (Some (Signed new)) =
    IsOverlaid i64_order nat_eq items others new
IsOverlayOf (Some (Wide items)) (Some (Wide others)) (Some (Wide new)) =
    IsOverlaid ipv6_order nat_eq items others new
IsOverlayOf _ _ _ = ⊥

-- the third list binds as the first the keys that the second has, or all others
abbrev pub IsPart : {K W : Type 0} → Part → KeyOrder K → List (Item (AnyRange K) ℕ)
    → List (Item (AnyRange K) W) → List (Item (AnyRange K) ℕ) → Type 0
IsPart Shared order items others new = IsRestricted order nat_eq items others new
IsPart Rest order items others new = IsWithout order nat_eq items others new

-- so it is with the lists of three collections, of which the first and the third are maps
abbrev pub IsPartOf : Part → Option Collection → Option Collection → Option Collection → Type 0
IsPartOf part (Some (Unsigned items)) (Some (Unsigned others)) (Some (Unsigned new)) =
    IsPart part u64_order items others new
IsPartOf part (Some (Unsigned items)) (Some (Set others)) (Some (Unsigned new)) =
    IsPart part u64_order items others new
IsPartOf part (Some (Signed items)) (Some (Signed others)) (Some (Signed new)) =
    IsPart part i64_order items others new
IsPartOf part (Some (Signed items)) (Some (SignedSet others)) (Some (Signed new)) =
    IsPart part i64_order items others new
IsPartOf part (Some (Wide items)) (Some (Wide others)) (Some (Wide new)) =
    IsPart part ipv6_order items others new
IsPartOf part (Some (Wide items)) (Some (WideSet others)) (Some (Wide new)) =
    IsPart part ipv6_order items others new
IsPartOf _ _ _ _ = ⊥
