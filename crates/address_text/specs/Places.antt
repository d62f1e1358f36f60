-- Places in a text.
use Rattle.std.specs.Prelude.{ℕ, ◌+◌, ◌≤◌, ◌==◌, Bool, List, length}
use Rattle.std.specs.List.{after_first, before_first}
use Rattle.address_text.specs.Lines.{HasByte}

abbrev pub ends_line : ℕ → Bool
ends_line byte = byte == 10

-- the text has a line of this number, from 1, and this line has so many bytes
pub data IsPlace : List ℕ → ℕ → ℕ → Type 0 where
  First : (text : List ℕ) (column : ℕ) → column ≤ length (before_first ends_line text)
      → IsPlace text 1 column
  Below : (text : List ℕ) (line column : ℕ) → HasByte ends_line text
      → IsPlace (after_first ends_line text) line column → IsPlace text (line + 1) column
