-- What an open handle holds.
use Rattle.std.specs.Prelude.{ℕ, [], length, Option, Some, None, ⊤}
use Rattle.range_handles.specs.Lists.{Ranges, SignedRanges, WideRanges, KeyRanges, SignedKeyRanges, WideKeyRanges}
use Rattle.range_handles.specs.declared.collection.Collection.{Collection}
use Rattle.range_handles.specs.declared.collection.Collection.TheVariants.{Unsigned, Signed, Set, SignedSet, Wide, WideSet, Lexer}

-- a map of `u64` keys is held
abbrev pub HoldsMap : Option Collection → Type 0
HoldsMap (Some (Unsigned items)) = ⊤
HoldsMap _ = ⊥

-- its ranges with their values; none of what else is held
abbrev pub map_items : Option Collection → Ranges
map_items (Some (Unsigned items)) = items
map_items _ = []

-- a map of `i64` keys is held
abbrev pub HoldsSignedMap : Option Collection → Type 0
HoldsSignedMap (Some (Signed items)) = ⊤
HoldsSignedMap _ = ⊥

abbrev pub signed_items : Option Collection → SignedRanges
signed_items (Some (Signed items)) = items
signed_items _ = []

-- a set of `u64` keys is held
abbrev pub HoldsSet : Option Collection → Type 0
HoldsSet (Some (Set items)) = ⊤
HoldsSet _ = ⊥

abbrev pub set_items : Option Collection → KeyRanges
set_items (Some (Set items)) = items
set_items _ = []

-- a set of `i64` keys is held
abbrev pub HoldsSignedSet : Option Collection → Type 0
HoldsSignedSet (Some (SignedSet items)) = ⊤
HoldsSignedSet _ = ⊥

abbrev pub signed_set_items : Option Collection → SignedKeyRanges
signed_set_items (Some (SignedSet items)) = items
signed_set_items _ = []

-- a map of keys of 128 bits is held
abbrev pub HoldsWideMap : Option Collection → Type 0
HoldsWideMap (Some (Wide items)) = ⊤
HoldsWideMap _ = ⊥

abbrev pub wide_items : Option Collection → WideRanges
wide_items (Some (Wide items)) = items
wide_items _ = []

-- a set of keys of 128 bits is held
abbrev pub HoldsWideSet : Option Collection → Type 0
HoldsWideSet (Some (WideSet items)) = ⊤
HoldsWideSet _ = ⊥

abbrev pub wide_set_items : Option Collection → WideKeyRanges
wide_set_items (Some (WideSet items)) = items
wide_set_items _ = []

-- a map or a set is held, and no lexer
abbrev pub HoldsRanges : Option Collection → Type 0
HoldsRanges None = ⊥
HoldsRanges (Some (Lexer machine)) = ⊥
HoldsRanges _ = ⊤

-- a lexer is held
abbrev pub HoldsLexer : Option Collection → Type 0
HoldsLexer (Some (Lexer machine)) = ⊤
HoldsLexer _ = ⊥

-- how many ranges are stored
abbrev pub range_count : Option Collection → ℕ
range_count (Some (Unsigned items)) = length items
range_count (Some (Signed items)) = length items
range_count (Some (Set items)) = length items
range_count (Some (SignedSet items)) = length items
range_count (Some (Wide items)) = length items
range_count (Some (WideSet items)) = length items
range_count (Some (Lexer machine)) = 0
range_count None = 0

-- the same kind, with no range; a lexer has none
abbrev pub emptied : Option Collection → Option Collection
emptied (Some (Unsigned items)) = Some (Unsigned [])
emptied (Some (Signed items)) = Some (Signed [])
emptied (Some (Set items)) = Some (Set [])
emptied (Some (SignedSet items)) = Some (SignedSet [])
emptied (Some (Wide items)) = Some (Wide [])
emptied (Some (WideSet items)) = Some (WideSet [])
emptied (Some (Lexer machine)) = Some (Lexer machine)
emptied None = None
