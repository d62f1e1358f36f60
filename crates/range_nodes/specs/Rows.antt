-- How `Rows` keeps the items of each number: in segments of as many rows each. No public clause
-- cites the segments.
use Rattle.std.specs.Prelude.{◌≡◌, ℕ, ◌<◌, List, [], ◌∷◌, ◌++◌, length, slice_index_or}
use Rattle.range_nodes.specs.declared.segment.TheConstants.{ROWS}

module _ {T : Type 0} where
  -- the items under a number, none where there is no row
  abbrev pub row_of : List (List T) → ℕ → List T
  row_of rows n = slice_index_or rows n []

-- the elements of all lists, in order
unfoldable pub joined : {A : Type 0} → List (List A) → List A
joined [] = []
joined (xs ∷ rest) = xs ++ joined rest

-- each list has as many elements as a segment has rows
abbrev pub AreSegments : {A : Type 0} → List (List A) → Type 0
AreSegments segments = (n : ℕ) → n < length segments → length (slice_index_or segments n []) ≡ ROWS
