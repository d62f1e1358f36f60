-- What a line of an address list says.
use Rattle.std.specs.Prelude.{◌≡◌, ℕ, ◌+◌, ◌-◌, ◌%◌, ◌^◌, ◌≤◌, ◌<◌, ◌⊎◌, ◌==◌, Bool, true, List, [], length, take, drop}
use Rattle.std.specs.Char.{is_ascii_whitespace}
use Rattle.std.specs.List.{after_first, before_first, position_or_len, prefix_len, suffix_len}
use Rattle.std.specs.Net.Grammar.{IsNumber}
use Rattle.std.specs.Str.{IsUtf8}
use Rattle.address_text.specs.Texts.{IsAddressText, width}
use Rattle.address_text.specs.declared.family.Family.{Family}
use Rattle.address_text.specs.declared.family.Family.TheVariants.{V4, V6}
use Rattle.address_text.specs.declared.line.Line.{Line}
use Rattle.address_text.specs.declared.line.Line.TheVariants.{Nothing, Addresses}

abbrev pub is_hash : ℕ → Bool
is_hash b = b == 35

abbrev pub is_slash : ℕ → Bool
is_slash b = b == 47

abbrev pub is_dash : ℕ → Bool
is_dash b = b == 45

-- a byte passes the test
abbrev pub HasByte : (ℕ → Bool) → List ℕ → Type 0
HasByte test text = position_or_len test text < length text

-- without the white space at the start, and at both ends
abbrev pub from_word : List ℕ → List ℕ
from_word text = drop (prefix_len is_ascii_whitespace text) text

abbrev pub trimmed : List ℕ → List ℕ
trimmed text =
    take (length (from_word text) - suffix_len is_ascii_whitespace (from_word text))
    (from_word text)

-- the line up to a comment
abbrev pub content : List ℕ → List ℕ
content line = trimmed (before_first is_hash line)

-- so many bits of 1, and then bits of 0
abbrev pub IsNetmask : ℕ → ℕ → ℕ → Type 0
IsNetmask width length mask = mask + 2 ^ (width - length) ≡ 2 ^ width

-- so many bits of 0, and then bits of 1: at least one of each
abbrev pub IsWildcard : ℕ → ℕ → ℕ → Type 0
IsWildcard width length mask =
    (0 < length) × (length < width) × (mask + 1 ≡ 2 ^ (width - length))

abbrev pub IsMask : ℕ → ℕ → ℕ → Type 0
IsMask width length mask =
    (length ≤ width) × (IsNetmask width length mask ⊎ IsWildcard width length mask)

-- the text is a number that addresses of the family have as a length
abbrev pub IsShort : Family → List ℕ → ℕ → Type 0
IsShort family text length = IsNumber 10 text length × (length ≤ width family)

-- a length by a number, or else by a mask
abbrev pub IsLength : Family → List ℕ → ℕ → Type 0
IsLength family text length = IsShort family text length
    ⊎ (((n : ℕ) → ¬ IsShort family text n) × (mask : ℕ) × IsAddressText family text mask
    × IsMask (width family) length mask)

-- an address and a length: the addresses that begin with so many of its bits
pub record IsPrefixSpan (strict : Bool) (family : Family) (text digits : List ℕ) (first last : ℕ)
    : Type 0 where
  pub address : ℕ
  pub length : ℕ
  pub written : IsAddressText family text address
  pub told : IsLength family digits length
  pub first_is : first ≡ address - address % 2 ^ (width family - length)
  pub last_is : last + 1 ≡ first + 2 ^ (width family - length)
  pub has_no_more : strict ≡ true → first ≡ address

-- two addresses, the first not above the last
pub record IsRangeSpan (family : Family) (text others : List ℕ) (first last : ℕ) : Type 0 where
  pub from : IsAddressText family (trimmed text) first
  pub to : IsAddressText family (trimmed others) last
  pub ordered : first ≤ last

module _ (strict : Bool) where
  -- a text with a slash is a prefix, one with a dash a range, any other an address
  abbrev pub IsSpan : Family → List ℕ → ℕ → ℕ → Type 0
  IsSpan family text first last =
      (HasByte is_slash text × IsPrefixSpan strict family (before_first is_slash text)
      (after_first is_slash text) first last)
      ⊎ (((¬ HasByte is_slash text) × HasByte is_dash text
      × IsRangeSpan family (before_first is_dash text) (after_first is_dash text) first last)
      ⊎ ((¬ HasByte is_slash text) × (¬ HasByte is_dash text)
      × IsAddressText family text first × (last ≡ first)))

  -- a line says nothing where it has no content, or else the addresses that are its content
  abbrev pub Says : List ℕ → Line → Type 0
  Says line Nothing = content line ≡ []
  Says line (Addresses family first last) =
      IsUtf8 (content line) × IsSpan family (content line) first last

-- the ends that a line names are addresses
abbrev pub AreAddresses : Line → Type 0
AreAddresses Nothing = Unit {0}
AreAddresses (Addresses family first last) =
    (first < 2 ^ width family) × (last < 2 ^ width family)

-- the line says the address
abbrev pub SaysAddress : Family → ℕ → Line → Type 0
SaysAddress family n Nothing = ⊥
SaysAddress V4 n (Addresses V4 first last) = (first ≤ n) × (n ≤ last)
SaysAddress V4 n (Addresses V6 first last) = ⊥
SaysAddress V6 n (Addresses V4 first last) = ⊥
SaysAddress V6 n (Addresses V6 first last) = (first ≤ n) × (n ≤ last)
