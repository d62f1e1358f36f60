-- Starts of lines that tell all that counts, whatever comes next.
use Rattle.std.specs.Prelude.{◌≡◌, ℕ, ◌||◌, ◌==◌, Bool, false, not, List, [], ◌∷◌, ◌++◌, take}
use Rattle.std.specs.Char.{is_ascii_whitespace}
use Rattle.std.specs.List.{list_any}
use Rattle.address_text.specs.Faults.{IsFault}
use Rattle.address_text.specs.Lines.{Says, content, is_dash, is_hash, is_slash}
use Rattle.address_text.specs.Places.{ends_line}
use Rattle.address_text.specs.Texts.{IsAddressText}
use Rattle.address_text.specs.declared.family.Family.{Family}
use Rattle.address_text.specs.declared.fault.Expected.{Expected}
use Rattle.address_text.specs.declared.fault.Expected.TheVariants.{Address}
use Rattle.address_text.specs.declared.line.Line.{Line}

-- no white space, no byte that parts a line, and none with which JSON begins
abbrev pub is_plain : ℕ → Bool
is_plain byte = not (is_ascii_whitespace byte || is_hash byte || is_slash byte || is_dash byte
    || (byte == 123))

-- a line with this start and rest says nothing known, and is no address. One was expected at its
-- first byte, and the start shows what stands there
pub record IsBad (start rest : List ℕ) : Type 0 where
  pub nothing : (strict : Bool) (said : Line) → ¬ Says strict (start ++ rest) said
  pub unwritten : (family : Family) (n : ℕ) → ¬ IsAddressText family (content (start ++ rest)) n
  pub fault : IsFault (start ++ rest) 1 Address
  pub found : take 40 (content (start ++ rest)) ≡ take 40 start

-- nothing else was expected of the start, and nowhere else
abbrev pub HasOneFault : List ℕ → Type 0
HasOneFault start = (column : ℕ) (expected : Expected) → IsFault start column expected
    → (column ≡ 1) × (expected ≡ Address)

abbrev pub IsBadStart : List ℕ → Type 0
IsBadStart start = (rest : List ℕ) → IsBad start rest

-- a byte with which a comment, the next line or JSON begins
abbrev pub ends_text : ℕ → Bool
ends_text byte = is_hash byte || ends_line byte || (byte == 123)

-- the start of a line has its comment sign at its end, so whatever comes next is comment
abbrev pub OpensComment : List ℕ → Type 0
OpensComment start =
    (text : List ℕ) × (start ≡ text ++ 35 ∷ []) × (list_any ends_text text ≡ false)
