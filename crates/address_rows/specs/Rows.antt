-- Addresses with values, and values by numbers.
use Rattle.std.specs.Prelude.{◌≡◌, ◌<◌, ℕ, List, [], get_or, length}
use Rattle.address_text.specs.declared.line.Line.{Line}

-- the text stands at this place
abbrev pub IsAt : List (List ℕ) → ℕ → List ℕ → Type 0
IsAt texts number text = (number < length texts) × (get_or texts number [] ≡ text)

-- the addresses of a line, and their value
pub record Row : Type 0 where
  pub addresses : Line
  pub value : List ℕ
