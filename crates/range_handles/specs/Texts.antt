-- What an open handle is saved as, and what a text is read as.
use Rattle.std.specs.Prelude.{◌≡◌, ℕ, ℤ, List, nat_eq, Bool, is_some, Option, Some, None}
use Rattle.serde_json.specs.Data.{Data, null}
use Rattle.serde_json.specs.Read.{read}
use Rattle.serde_json.specs.Written.{compact_text}
use Rattle.btree_range_map.specs.Faults.{IsSetRead, set_fault}
use Rattle.btree_range_map.specs.JsonError.{JsonError}
use Rattle.btree_range_map.specs.Keys.{unsigned_of, signed_of, unsigned_shape, signed_shape}
use Rattle.btree_range_map.specs.MapFaults.{IsMapRead, IsMapFault}
use Rattle.btree_range_map.specs.Names.{u64_order, i64_order}
use Rattle.btree_range_map.specs.Shapes.{map_shape, set_shape}
use Rattle.address_keys.specs.Addresses.{ipv6_order}
use Rattle.address_keys.specs.Json.{IsIpv6Read, ipv6_shape, reads_ipv6}
use Rattle.range_handles.specs.declared.collection.Collection.{Collection}
use Rattle.range_handles.specs.declared.collection.Collection.TheVariants.{Unsigned, Signed, Set, SignedSet, Wide, WideSet, Lexer}

-- a `u64`, and an `i64`, is read of the JSON value
abbrev pub reads_unsigned : Data → Bool
reads_unsigned d = is_some (unsigned_of 18446744073709551615 d)

abbrev pub IsUnsignedRead : Data → ℕ → Type 0
IsUnsignedRead d n = unsigned_of 18446744073709551615 d ≡ Some n

abbrev pub reads_signed : Data → Bool
reads_signed d = is_some (signed_of 9223372036854775807 d)

abbrev pub IsSignedRead : Data → ℤ → Type 0
IsSignedRead d z = signed_of 9223372036854775807 d ≡ Some z

-- the JSON value that a collection is written as; a lexer is not written
abbrev pub data_of : Collection → Data
data_of (Unsigned items) = map_shape unsigned_shape unsigned_shape items
data_of (Signed items) = map_shape signed_shape unsigned_shape items
data_of (Set items) = set_shape unsigned_shape items
data_of (SignedSet items) = set_shape signed_shape items
data_of (Wide items) = map_shape ipv6_shape unsigned_shape items
data_of (WideSet items) = set_shape ipv6_shape items
data_of (Lexer machine) = null

-- what the JSON value is read as
abbrev pub IsDataRead : Data → Collection → Type 0
IsDataRead d (Unsigned items) =
    IsMapRead u64_order reads_unsigned reads_unsigned IsUnsignedRead IsUnsignedRead nat_eq d items
IsDataRead d (Signed items) =
    IsMapRead i64_order reads_signed reads_unsigned IsSignedRead IsUnsignedRead nat_eq d items
IsDataRead d (Set items) = IsSetRead IsUnsignedRead u64_order d items
IsDataRead d (SignedSet items) = IsSetRead IsSignedRead i64_order d items
IsDataRead d (Wide items) =
    IsMapRead ipv6_order reads_ipv6 reads_unsigned IsIpv6Read IsUnsignedRead nat_eq d items
IsDataRead d (WideSet items) = IsSetRead IsIpv6Read ipv6_order d items
IsDataRead d (Lexer machine) = ⊥

-- a fault of the value as one of the collection's kind
abbrev pub IsDataFault : Collection → Data → JsonError → Type 0
IsDataFault (Unsigned items) d e =
    IsMapFault u64_order reads_unsigned reads_unsigned IsUnsignedRead IsUnsignedRead d e
IsDataFault (Signed items) d e =
    IsMapFault i64_order reads_signed reads_unsigned IsSignedRead IsUnsignedRead d e
IsDataFault (Set items) d e = set_fault reads_unsigned d ≡ Some e
IsDataFault (SignedSet items) d e = set_fault reads_signed d ≡ Some e
IsDataFault (Wide items) d e =
    IsMapFault ipv6_order reads_ipv6 reads_unsigned IsIpv6Read IsUnsignedRead d e
IsDataFault (WideSet items) d e = set_fault reads_ipv6 d ≡ Some e
IsDataFault (Lexer machine) d e = ⊥

-- the text that what is held is saved as
abbrev pub IsTextOf : Option Collection → List ℕ → Type 0
IsTextOf None text = ⊥
IsTextOf (Some (Lexer machine)) text = ⊥
IsTextOf (Some collection) text = text ≡ compact_text (data_of collection)

-- what the text is read as is held
abbrev pub IsTextRead : List ℕ → Option Collection → Type 0
IsTextRead text None = ⊥
IsTextRead text (Some collection) =
    (d : Data) × (read text ≡ Some d) × IsDataRead d collection

-- the text is that of a JSON value that is none of the kind that is held
abbrev pub IsFaultyText : Option Collection → List ℕ → Type 0
IsFaultyText None text = ⊥
IsFaultyText (Some collection) text =
    (d : Data) × (read text ≡ Some d) × ((e : JsonError) × IsDataFault collection d e)
