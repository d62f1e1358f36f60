-- How a `Segment` keeps its rows: in cells that follow each other, so many for each row, of which
-- the first have an item. No public clause cites this file.
use Rattle.std.specs.Prelude.{◌≡◌, ℕ, zero, suc, ◌+◌, ◌*◌, ◌<◌, ◌≤◌, List, [], ◌∷◌, length, map, take, drop, get_or, filter_map, Option, Some, None}
use Rattle.item_cells.specs.Cells.{cell}
use Rattle.range_nodes.specs.declared.nodes.TheConstants.{CAPACITY}
use Rattle.range_nodes.specs.declared.segment.TheConstants.{ROWS}
use Rattle.range_nodes.specs.Rows.{row_of}

module _ {T : Type 0} where
  -- what the cell at an index of a row with these items has
  abbrev pub row_cell : List T → ℕ → Option T
  row_cell xs i = get_or (map (λ x. Some x) xs) i None

  -- the items in cells
  abbrev pub items_in : List (Option T) → List T
  items_in cells = filter_map (λ c. c) cells

  -- the items of so many rows
  unfoldable pub rows_in : ℕ → List (Option T) → List (List T)
  rows_in zero cells = []
  rows_in (suc many) cells = items_in (take CAPACITY cells) ∷ rows_in many (drop CAPACITY cells)

  -- the cells have the items of these rows, and no others
  pub record IsLaid (rows : List (List T)) (cells : List (Option T)) : Type 0 where
    pub len : length cells ≡ CAPACITY * length rows
    pub fits : (n : ℕ) → length (row_of rows n) ≤ CAPACITY
    pub held : (n i : ℕ) → i < CAPACITY
        → cell cells (CAPACITY * n + i) ≡ row_cell (row_of rows n) i

  -- the cells have the items of a segment's rows, with so many items each
  pub record IsSegment (lens : List ℕ) (cells : List (Option T)) : Type 0 where
    pub rows : List (List T)
    pub laid : IsLaid rows cells
    pub lens_are : lens ≡ map length rows
    pub many : length rows ≡ ROWS
