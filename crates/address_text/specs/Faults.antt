-- What is wrong with a line of an address list, by its content.
use Rattle.std.specs.Prelude.{◌≡◌, ℕ, ◌+◌, ◌⊎◌, List, length}
use Rattle.std.specs.Char.{is_ascii_whitespace}
use Rattle.std.specs.List.{after_first, before_first, prefix_len}
use Rattle.std.specs.Str.{IsUtf8}
use Rattle.address_text.specs.Lines.{HasByte, IsLength, content, is_dash, is_slash, trimmed}
use Rattle.address_text.specs.Texts.{IsAddressText, width}
use Rattle.address_text.specs.declared.family.Family.{Family}
use Rattle.address_text.specs.declared.fault.Expected.{Expected}
use Rattle.address_text.specs.declared.fault.Expected.TheVariants.{Address, Last, Length, Mask, ZeroBits}

-- the text writes an address of the family
abbrev pub IsOf : Family → List ℕ → Type 0
IsOf family text = (n : ℕ) × IsAddressText family text n

abbrev pub IsAddress : List ℕ → Type 0
IsAddress text = (family : Family) × IsOf family text

-- what was expected of a text that is no length of the family's addresses: another mask where it is
-- an address, and else a length
abbrev pub IsWrongLength : Family → List ℕ → Expected → Type 0
IsWrongLength family digits Address = ⊥
IsWrongLength family digits (Length most) = (most ≡ width family) × ¬ IsOf family digits
IsWrongLength family digits Mask = IsOf family digits
IsWrongLength family digits ZeroBits = ⊥
IsWrongLength family digits Last = ⊥

-- an address before a slash, and no length after it that such addresses have
abbrev pub LacksLength : List ℕ → List ℕ → Expected → Type 0
LacksLength address digits expected = (family : Family) × IsOf family address
    × ((length : ℕ) → ¬ IsLength family digits length) × IsWrongLength family digits expected

-- an address before a slash, and a length after it that such addresses have
abbrev pub HasLength : List ℕ → List ℕ → Type 0
HasLength address digits =
    (family : Family) × IsOf family address × (length : ℕ) × IsLength family digits length

-- how many bytes of white space the text begins with
abbrev pub blank_count : List ℕ → ℕ
blank_count text = prefix_len is_ascii_whitespace text

-- what was expected of a prefix, by the texts before and after its slash, and after how many bytes
-- the part begins that is wrong
abbrev pub IsWrongPrefix : List ℕ → List ℕ → Expected → ℕ → Type 0
IsWrongPrefix address digits Address place = (place ≡ 0) × ¬ IsAddress address
IsWrongPrefix address digits (Length most) place =
    (place ≡ length address + 1) × LacksLength address digits (Length most)
IsWrongPrefix address digits Mask place =
    (place ≡ length address + 1) × LacksLength address digits Mask
IsWrongPrefix address digits ZeroBits place = (place ≡ 0) × HasLength address digits
IsWrongPrefix address digits Last place = ⊥

-- what was expected after the dash of a range
abbrev pub IsWrongLast : List ℕ → Expected → Type 0
IsWrongLast last Address = ¬ IsAddress last
IsWrongLast last (Length most) = ⊥
IsWrongLast last Mask = ⊥
IsWrongLast last ZeroBits = ⊥
IsWrongLast last Last = IsAddress last

-- what was expected of a range, by the texts before and after its dash, and after how many bytes
-- the address begins that is wrong
abbrev pub IsWrongRange : List ℕ → List ℕ → Expected → ℕ → Type 0
IsWrongRange first last expected place =
    ((¬ IsAddress (trimmed first)) × (expected ≡ Address) × (place ≡ 0))
    ⊎ (IsAddress (trimmed first) × IsWrongLast (trimmed last) expected
    × (place ≡ length first + 1 + blank_count last))

-- what was expected of a text, and after how many bytes: of a prefix where it has a slash, of a
-- range where it has a dash, and else an address
abbrev pub IsWrong : List ℕ → Expected → ℕ → Type 0
IsWrong text expected place =
    (HasByte is_slash text
    × IsWrongPrefix (before_first is_slash text) (after_first is_slash text) expected place)
    ⊎ (((¬ HasByte is_slash text) × HasByte is_dash text
    × IsWrongRange (before_first is_dash text) (after_first is_dash text) expected place)
    ⊎ ((¬ HasByte is_slash text) × (¬ HasByte is_dash text) × (expected ≡ Address)
    × (place ≡ 0)))

-- what was expected of a line with this content, and after how many of its bytes
abbrev pub IsExpected : List ℕ → Expected → ℕ → Type 0
IsExpected text expected place =
    (IsUtf8 text × IsWrong text expected place)
    ⊎ ((¬ IsUtf8 text) × (expected ≡ Address) × (place ≡ 0))

-- what was expected of a line, and the number of the byte where the part begins that is wrong
abbrev pub IsFault : List ℕ → ℕ → Expected → Type 0
IsFault line column expected =
    (place : ℕ) × (column ≡ blank_count line + place + 1) × IsExpected (content line) expected place
