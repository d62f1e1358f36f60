-- How `Nodes` keeps its nodes: each number has children and items, but for spares, which are empty
-- and stand in no tree. No public clause cites this file.
use Rattle.std.specs.Prelude.{◌≡◌, ℕ, ◌<◌, ◌≤◌, List, [], ◌∷◌, length, Option, Some, None, slice_set}
use Rattle.range_nodes.specs.Heap.{Heap, Content}
use Rattle.range_nodes.specs.Occurrences.{occurrences}
use Rattle.range_nodes.specs.Rows.{row_of}

-- the slots, with nothing under these numbers
unfoldable pub without : {X : Type 0} → List ℕ → List (Option X) → List (Option X)
without [] slots = slots
without (n ∷ ns) slots = slice_set (without ns slots) n None

module _ {T : Type 0} where
  abbrev pub content : List T → List ℕ → Content T
  content xs ks = record { items = xs; children = ks }

  -- what each number has
  unfoldable pub contents : List (List ℕ) → List (List T) → List (Option (Content T))
  contents [] rows = []
  contents (ks ∷ lists) [] = Some (content [] ks) ∷ contents lists []
  contents (ks ∷ lists) (xs ∷ rows) = Some (content xs ks) ∷ contents lists rows

  -- what all of them have but the spares
  abbrev pub heap_of : List (List ℕ) → List (List T) → List ℕ → Heap T
  heap_of lists rows spares = record {
    slots = without spares (contents lists rows);
    capacity = length lists;
  }

  -- each number has a row, and no other has items; each spare is a number with nothing, told once
  pub record IsWhole (lists : List (List ℕ)) (rows : List (List T)) (spares : List ℕ) : Type 0
    where
      pub there : length lists ≤ length rows
      pub bare : (k : ℕ) → length lists ≤ k → row_of rows k ≡ []
      pub within : (k : ℕ) → 0 < occurrences k spares → k < length lists
      pub no_items : (k : ℕ) → 0 < occurrences k spares → row_of rows k ≡ []
      pub no_children : (k : ℕ) → 0 < occurrences k spares → row_of lists k ≡ []
      pub once : (k : ℕ) → occurrences k spares ≤ 1
