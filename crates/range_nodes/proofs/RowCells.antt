-- What each cell of a row has, when the items of the row change.
use Rattle.std.proofs.Common.{◌≡◌, ◌≢◌, ℕ, zero, suc, ◌+◌, ◌<◌, ◌≤◌, List, [], ◌∷◌, length, map, get_or, Option, Some, None, refl, sym, ap, ◌∙◌, arith}
use Rattle.std.proofs.Math.ListN.{set}
use Rattle.std.specs.List.{insert, remove}
use Rattle.std.proofs.lemmas.Option.{none-some, same_Some}
use Rattle.std.proofs.lemmas.List.{length-map, map-append, map-set, take-map, drop-map, get_or-map, get_or_past, get_or-set_same, get_or-set_other}
use Rattle.std.proofs.lemmas.List.Edits.{get_or-insert_at, get_or-insert_below, get_or-insert_above, get_or-remove_below, get_or-remove_above}
use Rattle.item_cells.specs.Cells.{cell}
use Rattle.range_nodes.specs.Segments.{row_cell, items_in}

module _ {T : Type 0} where
  abbrev full : List T → List (Option T)
  full xs = map (λ x. Some x) xs

  many : (xs : List T) → length (full xs) ≡ length xs
  many xs = length-map xs (λ x. Some x)

  full_insert : (xs : List T) (i : ℕ) (x : T) → full (insert xs i x) ≡ insert (full xs) i (Some x)
  full_insert xs i x = grind (arith, take-map, drop-map, map-append)

  full_remove : (xs : List T) (i : ℕ) → full (remove xs i) ≡ remove (full xs) i
  full_remove xs i = grind (arith, take-map, drop-map, map-append)

  -- an index at which there is an item
  pub cell_at : (xs : List T) (i : ℕ) → i < length xs → (d : T)
      → row_cell xs i ≡ Some (get_or xs i d)
  cell_at xs i within d = get_or-map (λ x. Some x) xs i d None within

  pub cell_some : (xs : List T) (i : ℕ) → i < length xs → (x : T) × (row_cell xs i ≡ Some x)
  cell_some [] i within = absurd (omega arith)
  cell_some (x ∷ xs) zero within = (x, refl)
  cell_some (x ∷ xs) (suc i) within = cell_some xs i (omega arith)

  pub cell_past : (xs : List T) (i : ℕ) → length xs ≤ i → row_cell xs i ≡ None
  cell_past xs i past = get_or_past (full xs) i None (omega (arith, many xs, past))

  -- what was read from the cell of an item is the item
  pub cell_read : (xs : List T) (i : ℕ) → i < length xs → (x : T) → row_cell xs i ≡ Some x
      → x ≡ get_or xs i x
  cell_read xs i within x is = same_Some x (get_or xs i x) (sym is ∙ cell_at xs i within x)

  module _ (xs : List T) (i : ℕ) (x : T) (within : i ≤ length xs) where
    pub inserted_at : row_cell (insert xs i x) i ≡ Some x
    inserted_at =
        ap (λ l. get_or l i None) (full_insert xs i x)
        ∙ get_or-insert_at (full xs) i (Some x) None (omega (arith, many xs, within))

    pub inserted_below : (k : ℕ) → k < i → row_cell (insert xs i x) k ≡ row_cell xs k
    inserted_below k less =
        ap (λ l. get_or l k None) (full_insert xs i x)
        ∙ get_or-insert_below (full xs) i (Some x) None k less (omega (arith, many xs, within))

    pub inserted_above : (k : ℕ) → i ≤ k → row_cell (insert xs i x) (k + 1) ≡ row_cell xs k
    inserted_above k past =
        ap (λ l. get_or l (k + 1) None) (full_insert xs i x)
        ∙ get_or-insert_above (full xs) i (Some x) None k past (omega (arith, many xs, within))

  module _ (xs : List T) (i : ℕ) (within : i < length xs) where
    pub removed_below : (k : ℕ) → k < i → row_cell (remove xs i) k ≡ row_cell xs k
    removed_below k less =
        ap (λ l. get_or l k None) (full_remove xs i)
        ∙ get_or-remove_below (full xs) i None k less (omega (arith, many xs, within))

    pub removed_above : (k : ℕ) → i ≤ k → row_cell (remove xs i) k ≡ row_cell xs (k + 1)
    removed_above k past =
        ap (λ l. get_or l k None) (full_remove xs i)
        ∙ get_or-remove_above (full xs) i None k past (omega (arith, many xs, within))

    pub set_at : (x : T) → row_cell (set xs i x) i ≡ Some x
    set_at x =
        ap (λ l. get_or l i None) (map-set (λ y. Some y) xs i x)
        ∙ get_or-set_same (full xs) i (Some x) None (omega (arith, many xs, within))

    pub set_beside : (x : T) (k : ℕ) → k ≢ i → row_cell (set xs i x) k ≡ row_cell xs k
    set_beside x k other =
        ap (λ l. get_or l k None) (map-set (λ y. Some y) xs i x)
        ∙ get_or-set_other (full xs) i k (Some x) None other

  items_full : (xs : List T) → items_in (full xs) ≡ xs
  items_full [] = refl
  items_full (x ∷ xs) = ap (λ l. x ∷ l) (items_full xs)

  -- filled cells tell their items
  pub same_items : (xs ys : List T) → full xs ≡ full ys → xs ≡ ys
  same_items xs ys same = sym (items_full xs) ∙ ap items_in same ∙ items_full ys

  -- cells with these items, and no others, have the items
  pub items_laid : (cells : List (Option T)) (xs : List T) → length xs ≤ length cells
      → ((i : ℕ) → i < length cells → cell cells i ≡ row_cell xs i) → items_in cells ≡ xs
  items_laid [] [] fits held = refl
  items_laid [] (x ∷ xs) fits held = absurd (omega (arith, fits))
  items_laid (None ∷ cells) [] fits held =
      items_laid cells [] (omega arith) (λ i less. held (suc i) (omega (arith, less)))
  items_laid (None ∷ cells) (x ∷ xs) fits held = absurd (none-some x (held 0 (omega arith)))
  items_laid (Some y ∷ cells) [] fits held = absurd (none-some y (sym (held 0 (omega arith))))
  items_laid (Some y ∷ cells) (x ∷ xs) fits held =
      ap (λ z. z ∷ items_in cells) (same_Some y x (held 0 (omega arith)))
      ∙ ap (λ l. x ∷ l)
      (items_laid cells xs (omega (arith, fits)) (λ i less. held (suc i) (omega (arith, less))))
