-- The leaves of a pattern for which it is not taken.
use Rattle.std.specs.Prelude.{◌≡◌, ◌≤◌, ◌⊎◌, ℕ, true, ⊤}
use Rattle.std.specs.Str.{IsUtf8}
use Rattle.regex_class.specs.Ranges.{in_ranges}
use Rattle.regex_hir.specs.Re.{Re, literal, byte_in, look, cat, alt, group, plus}

-- in the tree of the pattern stands such a leaf
abbrev pub HasLeaf : (Re → Type 0) → Re → Type 0
HasLeaf Is (cat a b) = HasLeaf Is a ⊎ HasLeaf Is b
HasLeaf Is (alt a b) = HasLeaf Is a ⊎ HasLeaf Is b
HasLeaf Is (group number a) = HasLeaf Is a
HasLeaf Is (plus greedy a) = HasLeaf Is a
HasLeaf Is leaf = Is leaf

abbrev pub IsAssertion : Re → Type 0
IsAssertion (look assertion) = ⊤
IsAssertion other = ⊥

-- it matches bytes that are no text: a literal that is no UTF-8, or a class of bytes that are not
-- all ASCII
abbrev pub IsBytes : Re → Type 0
IsBytes (literal bytes) = ¬ IsUtf8 bytes
IsBytes (byte_in ranges) = ¬ ((c : ℕ) → in_ranges ranges c ≡ true → c ≤ 127)
IsBytes other = ⊥

-- the pattern has neither
abbrev pub IsTaken : Re → Type 0
IsTaken re = (¬ HasLeaf IsAssertion re) × (¬ HasLeaf IsBytes re)
