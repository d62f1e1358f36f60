-- Rows of which the items of one, or of two, change one after the other.
use Rattle.std.proofs.Common.{◌≡◌, ◌≢◌, ℕ, suc, ◌+◌, ◌-◌, ◌<◌, ◌≤◌, List, [], ◌∷◌, ◌++◌, length, get_or, take, drop, ap, ◌∙◌, arith, sym}
use Rattle.std.proofs.Math.ListN.{set, length-set}
use Rattle.std.proofs.Math.Seq.{drop-cons}
use Rattle.std.specs.List.{insert, remove}
use Rattle.std.proofs.lemmas.List.{append_assoc, take-take, length-take-le, get_or-take, get_or-set_same, get_or-set_other, set-set, set_comm}
use Rattle.std.proofs.lemmas.List.Edits.{insert-append_left, insert_end}
use Rattle.range_nodes.specs.Rows.{row_of}
use Rattle.range_store.proofs.Edits.{without_last}
use Rattle.range_nodes.proofs.Halves.{take_insert_before, take_insert_after, drop_insert_after, drop_insert_before}
use Rattle.range_store.proofs.Moved.{taken_more}

module _ {T : Type 0} where
  -- another item came to the end of a row
  pub filled_more : (rows now : List (List T)) (n k : ℕ) (items rest : List T) (x : T)
      → n < length rows → k < length items → now ≡ set rows n (take k items)
      → drop k items ≡ x ∷ rest
      → (set now n (insert (row_of now n) k x) ≡ set rows n (take (k + 1) items))
      × (rest ≡ drop (k + 1) items)
  filled_more rows now n k items rest x there within was next =
      let long : k ≡ length (take k items) = sym (length-take-le k items (omega arith)) in
      grind (arith, taken_more, insert_end, set-set, get_or-set_same)

-- two rows of many have these items, and one is changed
module _ {T : Type 0} (rows : List (List T)) (l r : ℕ) (l_there : l < length rows)
    (r_there : r < length rows) (apart : l ≢ r) (now : List (List T)) (xs ys : List T)
    (was : now ≡ set (set rows l xs) r ys) where
  left_row : row_of now l ≡ xs
  left_row = grind (arith, get_or-set_other, get_or-set_same)

  right_row : row_of now r ≡ ys
  right_row = grind (arith, get_or-set_same, length-set)

  left_anew : (zs : List T) → set now l zs ≡ set (set rows l zs) r ys
  left_anew zs = grind (arith, set_comm, set-set)

  -- the last item of the first one went
  less_left : (k : ℕ) → length xs ≡ k + 1
      → set now l (remove (row_of now l) k) ≡ set (set rows l (take k xs)) r ys
  less_left k long = grind (arith, left_anew, left_row, without_last)

-- the last item of one row went to the place behind those that another had
pub moved_last : {T : Type 0} (rows now : List (List T)) (from to left : ℕ)
    → from < length rows → to < length rows → from ≢ to → 0 < left
    → left ≤ length (row_of rows from)
    → now ≡ set (set rows from (take left (row_of rows from))) to
    (row_of rows to ++ drop left (row_of rows from))
    → (item : T) → item ≡ get_or (row_of now from) (left - 1) item → (end : ℕ)
    → end ≡ length (row_of rows to)
    → set (set now from (remove (row_of now from) (left - 1))) to
    (insert (row_of (set now from (remove (row_of now from) (left - 1))) to) end item)
    ≡ set (set rows from (take (left - 1) (row_of rows from))) to
    (row_of rows to ++ drop (left - 1) (row_of rows from))
moved_last rows now from to left from_there to_there apart some few was item is end is_end =
    let source = row_of rows from in
    let held = row_of rows to in
    let xs = take left source in
    let tail = held ++ drop left source in
    let next : suc (left - 1) ≡ left = omega arith in
    grind (
      arith,
      less_left rows from to from_there to_there apart now xs tail was (left - 1)
          (omega (arith, length-take-le left source few)),
      length-take-le left source few,
      take-take,
      left_row,
      get_or-take,
      set-set,
      right_row,
      insert-append_left,
      insert_end,
      append_assoc,
      drop-cons,
    )

-- a full row was cut in two, and an item put among those of one half
module _ {T : Type 0} (rows one two three : List (List T)) (l r : ℕ) (l_there : l < length rows)
    (r_there : r < length rows) (apart : l ≢ r) (bare : row_of rows r ≡ []) (i : ℕ) (x : T)
    (many : length (row_of rows l) ≡ 11) (k : ℕ)
    (cut : one ≡ set (set rows l (take k (row_of rows l))) r
    (row_of rows r ++ drop k (row_of rows l))) (less : k ≤ 11) (some : 0 < k)
    (taken : two ≡ set one l (remove (row_of one l) (k - 1))) where
  abbrev whole : List T
  whole = row_of rows l

  abbrev left : List T
  left = take (k - 1) (row_of rows l)

  abbrev right : List T
  right = drop k (row_of rows l)

  halves : two ≡ set (set rows l left) r right
  halves =
      taken
      ∙ less_left rows l r l_there r_there apart one (take k whole) right
      (cut ∙ ap (λ ys. set (set rows l (take k whole)) r (ys ++ right)) bare) (k - 1)
      (omega (arith, length-take-le k whole (omega (arith, many))))
      ∙ ap (λ zs. set (set rows l zs) r right) (take-take (k - 1) k whole (omega arith))

  pub divided_low : suc i ≤ k → three ≡ set two l (insert (row_of two l) i x)
      → three ≡ set (set rows l (take k (insert whole i x))) r (drop (suc k) (insert whole i x))
  divided_low low put =
      grind (arith, left_anew, halves, left_row, take_insert_after, drop_insert_after)

  pub divided_high : (j : ℕ) → k ≤ i → i ≤ 11 → j ≡ i - k
      → three ≡ set two r (insert (row_of two r) j x)
      → three ≡ set (set rows l (take (k - 1) (insert whole i x))) r (drop k (insert whole i x))
  divided_high j high fits place put =
      grind (arith, set-set, halves, right_row, drop_insert_before, take_insert_before)

-- a row took an item and all that another had
pub absorbed : {T : Type 0} (rows now : List (List T)) (l r len : ℕ) (x : T) → l < length rows
    → l ≢ r → len ≡ length (row_of rows l)
    → now ≡ set rows l (insert (row_of rows l) len x)
    → set (set now r (take 0 (row_of now r))) l (row_of now l ++ drop 0 (row_of now r))
    ≡ set (set rows r []) l (row_of rows l ++ x ∷ row_of rows r)
absorbed rows now l r len x there apart end was =
    grind (arith, get_or-set_same, insert_end, get_or-set_other, append_assoc, set_comm, set-set)
