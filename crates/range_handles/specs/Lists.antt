-- The lists that the collections are.
use Rattle.std.specs.Prelude.{ℕ, ℤ, List, Option}
use Rattle.address_keys.specs.declared.ipv6.Ipv6.{Ipv6}
use Rattle.btree_range_map.specs.AnyRange.{AnyRange}
use Rattle.btree_range_map.specs.Item.{Item}

-- ranges with their values
abbrev pub Ranges : Type 0
Ranges = List (Item (AnyRange ℕ) ℕ)

abbrev pub SignedRanges : Type 0
SignedRanges = List (Item (AnyRange ℤ) ℕ)

abbrev pub WideRanges : Type 0
WideRanges = List (Item (AnyRange Ipv6) ℕ)

-- parts of a range with what they are bound to
abbrev pub Pieces : Type 0
Pieces = List (Item (AnyRange ℕ) (Option ℕ))

abbrev pub SignedPieces : Type 0
SignedPieces = List (Item (AnyRange ℤ) (Option ℕ))

abbrev pub WidePieces : Type 0
WidePieces = List (Item (AnyRange Ipv6) (Option ℕ))

-- ranges of a set
abbrev pub KeyRanges : Type 0
KeyRanges = List (Item (AnyRange ℕ) (Unit {0}))

abbrev pub SignedKeyRanges : Type 0
SignedKeyRanges = List (Item (AnyRange ℤ) (Unit {0}))

abbrev pub WideKeyRanges : Type 0
WideKeyRanges = List (Item (AnyRange Ipv6) (Unit {0}))
