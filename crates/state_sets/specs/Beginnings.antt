-- Beginnings of a text of which something holds, and the longest of them.
use Rattle.std.specs.Prelude.{ℕ, ◌≤◌, List, Option, Some, None, take}
use Rattle.std.specs.Str.{chars, IsCharBoundary}

module _ (Accepted : List ℕ → Type 0) (text : List ℕ) where
  -- the first bytes of the text are whole characters, and these are accepted
  abbrev pub AcceptsFirst : ℕ → Type 0
  AcceptsFirst n = IsCharBoundary text n × Accepted (chars (take n text))

  -- how many bytes the longest such beginning has, if there is one
  abbrev pub IsLongest : Option ℕ → Type 0
  IsLongest None = (n : ℕ) → ¬ AcceptsFirst n
  IsLongest (Some n) = AcceptsFirst n × ((m : ℕ) → AcceptsFirst m → m ≤ n)
