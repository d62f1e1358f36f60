-- When what two handles hold is alike.
use Rattle.std.specs.Prelude.{nat_eq, true, Option, Some}
use Rattle.btree_range_map.specs.Bindings.{BindAlike}
use Rattle.btree_range_map.specs.KeySets.{HoldAlike}
use Rattle.btree_range_map.specs.ListOrder.{IsCopyOf}
use Rattle.btree_range_map.specs.Names.{u64_order, i64_order}
use Rattle.address_keys.specs.Addresses.{ipv6_order}
use Rattle.range_handles.specs.declared.collection.Collection.{Collection}
use Rattle.range_handles.specs.declared.collection.Collection.TheVariants.{Unsigned, Signed, Set, SignedSet, Wide, WideSet}

-- of one kind, with equal ranges and equal values in the same places
abbrev pub IsCopy : Option Collection → Option Collection → Type 0
IsCopy (Some (Unsigned copy)) (Some (Unsigned items)) = IsCopyOf u64_order nat_eq copy items
IsCopy (Some (Signed copy)) (Some (Signed items)) = IsCopyOf i64_order nat_eq copy items
IsCopy (Some (Set copy)) (Some (Set items)) = IsCopyOf u64_order (λ _ _. true) copy items
IsCopy (Some (SignedSet copy)) (Some (SignedSet items)) =
    IsCopyOf i64_order (λ _ _. true) copy items
IsCopy (Some (Wide copy)) (Some (Wide items)) = IsCopyOf ipv6_order nat_eq copy items
IsCopy (Some (WideSet copy)) (Some (WideSet items)) =
    IsCopyOf ipv6_order (λ _ _. true) copy items
IsCopy _ _ = ⊥

-- of one kind, and each key is bound alike, or held by both or by neither
abbrev pub AreAlike : Option Collection → Option Collection → Type 0
AreAlike (Some (Unsigned items)) (Some (Unsigned others)) =
    BindAlike u64_order nat_eq items others
AreAlike (Some (Signed items)) (Some (Signed others)) = BindAlike i64_order nat_eq items others
AreAlike (Some (Set items)) (Some (Set others)) = HoldAlike u64_order items others
AreAlike (Some (SignedSet items)) (Some (SignedSet others)) = HoldAlike i64_order items others
AreAlike (Some (Wide items)) (Some (Wide others)) = BindAlike ipv6_order nat_eq items others
AreAlike (Some (WideSet items)) (Some (WideSet others)) = HoldAlike ipv6_order items others
AreAlike _ _ = ⊥
