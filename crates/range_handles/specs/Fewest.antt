-- That no fewer ranges than those that an open handle holds would do.
use Rattle.std.specs.Prelude.{ℕ, nat_eq, Option, Some, None, ⊤}
use Rattle.btree_range_map.specs.Bindings.{IsLeastCount}
use Rattle.btree_range_map.specs.KeySets as Sets
use Rattle.btree_range_map.specs.Names.{u64_order, i64_order}
use Rattle.address_keys.specs.Addresses.{ipv6_order}
use Rattle.range_handles.specs.declared.collection.Collection.{Collection}
use Rattle.range_handles.specs.declared.collection.Collection.TheVariants.{Unsigned, Signed, Set, SignedSet, Wide, WideSet, Lexer}

-- no list of ranges that binds the same, or holds the same keys, has fewer
abbrev pub IsLeastRangeCount : Option Collection → ℕ → Type 0
IsLeastRangeCount (Some (Unsigned items)) n = IsLeastCount u64_order nat_eq items n
IsLeastRangeCount (Some (Signed items)) n = IsLeastCount i64_order nat_eq items n
IsLeastRangeCount (Some (Set items)) n = Sets.IsLeastCount u64_order items n
IsLeastRangeCount (Some (SignedSet items)) n = Sets.IsLeastCount i64_order items n
IsLeastRangeCount (Some (Wide items)) n = IsLeastCount ipv6_order nat_eq items n
IsLeastRangeCount (Some (WideSet items)) n = Sets.IsLeastCount ipv6_order items n
IsLeastRangeCount (Some (Lexer machine)) n = ⊤
IsLeastRangeCount None n = ⊤
