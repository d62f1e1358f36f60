-- Short names for what a caller's contract says most: the orders of the shipped keys, ranges by
-- their ends, and what a map or a set in the default container holds.
use Rattle.std.specs.Prelude.{ℕ, ℤ, List}
use Rattle.std.specs.declared.ops.Bound.{Bound}
use Rattle.std.specs.declared.ops.Bound.TheVariants.{Included, Excluded, Unbounded}
use Rattle.range_keys.specs.Order.{KeyOrder}
use Rattle.range_keys.specs.Unsigned.{unsigned_order}
use Rattle.range_keys.specs.Signed.{signed_order}
use Rattle.range_keys.specs.Characters.{character_order}
use Rattle.range_algebra.specs.declared.any.AnyRange.{AnyRange}
use Rattle.range_tree.specs.Holding.{box_items}
use Rattle.range_tree.specs.declared.btree.BoxStorage.{BoxStorage}
use Rattle.range_store.specs.declared.storage.Item.{Item}
use Rattle.range_sets.specs.KeySets.{HoldsKey}

abbrev pub u8_order : KeyOrder ℕ
u8_order = unsigned_order 255

abbrev pub u16_order : KeyOrder ℕ
u16_order = unsigned_order 65535

abbrev pub u32_order : KeyOrder ℕ
u32_order = unsigned_order 4294967295

abbrev pub u64_order : KeyOrder ℕ
u64_order = unsigned_order 18446744073709551615

abbrev pub usize_order : KeyOrder ℕ
usize_order = unsigned_order 18446744073709551615

abbrev pub i8_order : KeyOrder ℤ
i8_order = signed_order 127

abbrev pub i16_order : KeyOrder ℤ
i16_order = signed_order 32767

abbrev pub i32_order : KeyOrder ℤ
i32_order = signed_order 2147483647

abbrev pub i64_order : KeyOrder ℤ
i64_order = signed_order 9223372036854775807

abbrev pub char_order : KeyOrder ℕ
char_order = character_order

-- a..b
abbrev pub range_from_to : {K : Type 0} → K → K → AnyRange K
range_from_to a b = record { start = Included a; end = Excluded b }

-- a..=b
abbrev pub range_inclusive : {K : Type 0} → K → K → AnyRange K
range_inclusive a b = record { start = Included a; end = Included b }

-- the range of one key
abbrev pub point : {K : Type 0} → K → AnyRange K
point k = record { start = Included k; end = Included k }

-- the stored ranges of a map with their values, in ascending order
abbrev pub bindings_of : {K V : Type 0} → BoxStorage (Item (AnyRange K) V)
    → List (Item (AnyRange K) V)
bindings_of map = box_items map

-- the key is in the set
abbrev pub IsKeyOf : {K : Type 0} → KeyOrder K → BoxStorage (Item (AnyRange K) (Unit {0})) → K
    → Type 0
IsKeyOf order set k = HoldsKey order (box_items set) k
