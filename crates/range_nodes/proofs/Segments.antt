-- Rows that lie in the cells of a segment, and one of which the items change.
use Rattle.std.proofs.Common.{◌≡◌, ◌≢◌, ℕ, zero, suc, ◌+◌, ◌-◌, ◌*◌, ◌<◌, ◌≤◌, List, [], ◌∷◌, length, map, get_or, take, drop, replicate, Option, Some, None, refl, sym, ap, subst, ◌∙◌, ◌⊎◌, inl, inr, arith}
use Rattle.std.proofs.Math.ListN.{set, length-set}
use Rattle.std.specs.List.{insert, remove}
use Rattle.std.proofs.lemmas.Bool.{cases_eq, cases_lt, cases_order}
use Rattle.std.proofs.lemmas.List.{length-map, length-drop, length-take-le, map-set, drop-drop, ext_get_or, get_or-set_same, get_or-set_other, get_or-take, get_or-drop, get_or_past, get_or-replicate, length-replicate}
use Rattle.std.proofs.lemmas.List.Edits.{length-insert, length-remove}
use Rattle.std.proofs.Math.ListN.{get_or-map as map_get_or}
use Rattle.item_cells.specs.Cells.{cell, IsFilled, AreFilled, AreEmpty, IsRun, SameOutside}
use Rattle.range_nodes.specs.declared.nodes.TheConstants.{CAPACITY}
use Rattle.range_nodes.specs.Rows.{row_of}
use Rattle.range_nodes.specs.Segments.{row_cell, items_in, rows_in, IsLaid, IsSegment}
use Rattle.range_nodes.specs.declared.segment.TheConstants.{ROWS}
use Rattle.range_nodes.proofs.RowCells.{cell_some, cell_past, items_laid, inserted_at, inserted_below, inserted_above, removed_below, removed_above, same_items, set_at, set_beside}

-- equal elements, read with the same default
all_alike : {A : Type 0} (many : ℕ) (x : A) (i : ℕ) → get_or (replicate many x) i x ≡ x
all_alike many x i =
    elim (cases_lt i many) [
      | inl less ↦ get_or-replicate many i x x less
      | inr past ↦ get_or_past (replicate many x) i x (omega (arith, past, length-replicate many x))
    ]

module _ {T : Type 0} where
  pub length-rows : (many : ℕ) (cells : List (Option T)) → length (rows_in many cells) ≡ many
  unfolding rows_in
  length-rows zero cells = refl
  length-rows (suc many) cells = ap suc (length-rows many (drop CAPACITY cells))

  rows_read : (many : ℕ) (cells : List (Option T)) (n : ℕ) → n < many
      → row_of (rows_in many cells) n ≡ items_in (take CAPACITY (drop (CAPACITY * n) cells))
  unfolding rows_in
  rows_read zero cells n within = absurd (omega arith)
  rows_read (suc many) cells zero within = refl
  rows_read (suc many) cells (suc n) within =
      rows_read many (drop CAPACITY cells) n (omega arith)
      ∙ ap (λ l. items_in (take CAPACITY l)) (grind (arith, drop-drop (CAPACITY * n) CAPACITY cells))

  -- the rows that lie in cells are these
  pub rows_are : {rows : List (List T)} {cells : List (Option T)} → IsLaid rows cells
      → (many : ℕ) → many ≡ length rows → rows_in many cells ≡ rows
  rows_are {rows} {cells} laid many all =
      ext_get_or [] (rows_in many cells) rows (length-rows many cells ∙ all)
      (λ n below.
      let less : n < many = omega (arith, below, length-rows many cells) in
      let part = take CAPACITY (drop (CAPACITY * n) cells) in
      let long : length part ≡ CAPACITY =
      length-take-le CAPACITY (drop (CAPACITY * n) cells)
      (omega (arith, length-drop (CAPACITY * n) cells, laid.len, less, all)) in
      rows_read many cells n less
      ∙ items_laid part (row_of rows n) (omega (arith, long, laid.fits n))
      (λ i within.
      let small : i < CAPACITY = omega (arith, within, long) in
      get_or-take CAPACITY (drop (CAPACITY * n) cells) i None small
      ∙ get_or-drop (CAPACITY * n) cells i None
      ∙ laid.held n i small))

  -- what a segment with these parts is seen as lies in its cells
  pub record Seen (lens : List ℕ) (cells : List (Option T)) (now : List (List T)) : Type 0 where
    pub laid : IsLaid now cells
    pub lens_are : lens ≡ map length now
    pub many : length now ≡ ROWS

  pub seen : {lens : List ℕ} {cells : List (Option T)} {now : List (List T)}
      → IsSegment lens cells → rows_in ROWS cells ≡ now → Seen lens cells now
  seen {lens} {cells} {now} segment is =
      let same : segment.rows ≡ now = sym (rows_are segment.laid ROWS (sym segment.many)) ∙ is in
      record {
        laid = subst (λ r. IsLaid r cells) same segment.laid;
        lens_are = segment.lens_are ∙ ap (map length) same;
        many = sym (ap length same) ∙ segment.many;
      }

  -- such parts may be put together, and are seen as the rows
  pub made : {lens : List ℕ} {cells : List (Option T)} {now : List (List T)} → IsLaid now cells
      → lens ≡ map length now → length now ≡ ROWS
      → IsSegment lens cells × (rows_in ROWS cells ≡ now)
  made {lens} {cells} {now} laid lens_are many = (
    record { rows = now; laid = laid; lens_are = lens_are; many = many },
    rows_are laid ROWS (sym many),
  )

  module _ {lens : List ℕ} {cells : List (Option T)} {now : List (List T)}
      (s : Seen lens cells now) where
    pub len_at : (n : ℕ) → get_or lens n 0 ≡ length (row_of now n)
    len_at n = ap (λ l. get_or l n 0) s.lens_are ∙ map_get_or length now n []

  module _ {rows : List (List T)} {cells : List (Option T)} (laid : IsLaid rows cells) (n : ℕ) where
    pub room : n < length rows → CAPACITY * n + CAPACITY ≤ length cells
    room less = omega (arith, laid.len, less)

    pub filled_at : (i : ℕ) → i < length (row_of rows n) → IsFilled cells (CAPACITY * n + i)
    filled_at i within =
        let some = cell_some (row_of rows n) i within in
        (some.0, laid.held n i (omega (arith, within, laid.fits n)) ∙ some.1)

    pub filled : AreFilled cells (CAPACITY * n) (CAPACITY * n + length (row_of rows n))
    filled k low high =
        subst (λ at. IsFilled cells at) (omega (arith, low))
        (filled_at (k - CAPACITY * n) (omega (arith, low, high)))

    pub bare_at : (i : ℕ) → length (row_of rows n) ≤ i → i < CAPACITY
        → cell cells (CAPACITY * n + i) ≡ None
    bare_at i past small = laid.held n i small ∙ cell_past (row_of rows n) i past

    held_run : n < length rows → take (length (row_of rows n)) (drop (CAPACITY * n) cells)
        ≡ map (λ x. Some x) (row_of rows n)
    held_run less =
        let xs = row_of rows n in
        let part = take (length xs) (drop (CAPACITY * n) cells) in
        let long : length part ≡ length xs =
        length-take-le (length xs) (drop (CAPACITY * n) cells)
        (omega (arith, length-drop (CAPACITY * n) cells, room less, laid.fits n)) in
        ext_get_or None part (map (λ x. Some x) xs) (long ∙ sym (length-map xs (λ x. Some x)))
        (λ i within.
        let less : i < length xs = omega (arith, within, long) in
        get_or-take (length xs) (drop (CAPACITY * n) cells) i None less
        ∙ get_or-drop (CAPACITY * n) cells i None
        ∙ laid.held n i (omega (arith, less, laid.fits n)))

    pub run : n < length rows → IsRun cells (CAPACITY * n) (length (row_of rows n))
    run less = (omega (arith, room less, laid.fits n), (row_of rows n, held_run less))

    -- the items that were read from a row's cells
    pub run_read : n < length rows → (items : List T)
        → take (length (row_of rows n)) (drop (CAPACITY * n) cells) ≡ map (λ x. Some x) items
        → items ≡ row_of rows n
    run_read less items read = same_items items (row_of rows n) (sym read ∙ held_run less)

  -- the items of one row changed
  pub written : {rows : List (List T)} {cells new : List (Option T)} → IsLaid rows cells → (n : ℕ)
      → n < length rows → (items : List T) → length items ≤ CAPACITY
      → length new ≡ length cells
      → ((i : ℕ) → i < CAPACITY → cell new (CAPACITY * n + i) ≡ row_cell items i)
      → ((k : ℕ) → (k < CAPACITY * n) ⊎ (CAPACITY * n + CAPACITY ≤ k)
      → cell new k ≡ cell cells k) → IsLaid (set rows n items) new
  written {rows} {cells} {new} laid n less items fits long here others =
      let same = get_or-set_same rows n items [] less in
      record {
        len = omega (arith, long, laid.len, length-set rows n items);
        fits = λ m.
            elim (cases_order m n) [
              | inl is ↦ rw (is, same) fits
              | inr apart ↦
                  rw (get_or-set_other rows n m items [] (λ is. elim apart [
                    | inl low ↦ omega (arith, is, low)
                    | inr high ↦ omega (arith, is, high)
                  ])) (laid.fits m)
            ];
        held = λ m i small.
            elim (cases_order m n) [
              | inl is ↦ rw (is, same) (here i small)
              | inr apart ↦
                  rw (get_or-set_other rows n m items [] (λ is. elim apart [
                    | inl low ↦ omega (arith, is, low)
                    | inr high ↦ omega (arith, is, high)
                  ])) (others (CAPACITY * m + i) (elim apart [
                    | inl low ↦ inl (omega (arith, low, small))
                    | inr high ↦ inr (omega (arith, high))
                  ]) ∙ laid.held m i small)
            ];
      }

  -- the items of one row came to be others, and so did their number
  pub lens_written : (rows : List (List T)) {lens : List ℕ} → lens ≡ map length rows → (n : ℕ)
      → (items : List T) → (many : ℕ) → many ≡ length items
      → set lens n many ≡ map length (set rows n items)
  lens_written rows lens_are n items many is =
      ap (λ l. set l n many) lens_are ∙ ap (set (map length rows) n) is
      ∙ sym (map-set length rows n items)

  -- the cell after the place where an item comes has what was one cell before
  one_on : {rows : List (List T)} {cells moved : List (Option T)} → IsLaid rows cells
      → (n i : ℕ) (x : T) → i ≤ length (row_of rows n) → (j : ℕ) → i < j → j < CAPACITY
      → ((k : ℕ) → CAPACITY * n + i ≤ k → k < CAPACITY * n + length (row_of rows n)
      → cell moved (suc k) ≡ cell cells k)
      → SameOutside cells moved (CAPACITY * n + i) (suc (CAPACITY * n + length (row_of rows n)))
      → cell moved (CAPACITY * n + j) ≡ row_cell (insert (row_of rows n) i x) j
  one_on {rows} {cells} {moved} laid n i x within j high small up others =
      let xs = row_of rows n in
      let next : j - 1 + 1 ≡ j = omega (arith, high) in
      elim (cases_lt (j - 1) (length xs)) [
        | inl less ↦
            ap (cell moved) (omega (arith, high))
            ∙ up (CAPACITY * n + (j - 1)) (omega (arith, high)) (omega (arith, less))
            ∙ laid.held n (j - 1) (omega (arith, small))
        | inr past ↦
            others.same (CAPACITY * n + j) (inr (omega (arith, past, high)))
            ∙ laid.held n j small ∙ cell_past xs j (omega (arith, past))
            ∙ sym (cell_past xs (j - 1) past)
      ]
      ∙ sym (inserted_above xs i x within (j - 1) (omega (arith, high)))
      ∙ ap (row_cell (insert xs i x)) next

  -- an item came to a row: those after it moved one cell on, and it was put between
  pub put_laid : {rows : List (List T)} {cells moved : List (Option T)} → IsLaid rows cells
      → (n i : ℕ) (x : T) → n < length rows → i ≤ length (row_of rows n)
      → length (row_of rows n) < CAPACITY
      → ((k : ℕ) → CAPACITY * n + i ≤ k → k < CAPACITY * n + length (row_of rows n)
      → cell moved (suc k) ≡ cell cells k)
      → SameOutside cells moved (CAPACITY * n + i) (suc (CAPACITY * n + length (row_of rows n)))
      → IsLaid (set rows n (insert (row_of rows n) i x)) (set moved (CAPACITY * n + i) (Some x))
  put_laid {rows} {cells} {moved} laid n i x less within space up others =
      let xs = row_of rows n in
      let at = CAPACITY * n + i in
      let there : at < length moved = omega (arith, others.len, room laid n less, within, space) in
      written laid n less (insert xs i x) (omega (arith, length-insert xs i x within, space))
      (length-set moved at (Some x) ∙ others.len)
      (λ j small.
      elim (cases_order j i) [
        | inl same ↦
            rw same (get_or-set_same moved at (Some x) None there ∙ sym (inserted_at xs i x within))
        | inr apart ↦
            get_or-set_other moved at (CAPACITY * n + j) (Some x) None
            (λ is. elim apart [
              | inl low ↦ omega (arith, is, low)
              | inr high ↦ omega (arith, is, high)
            ])
            ∙ elim apart [
              | inl low ↦
                  others.same (CAPACITY * n + j) (inl (omega (arith, low)))
                  ∙ laid.held n j small ∙ sym (inserted_below xs i x within j low)
              | inr high ↦ one_on laid n i x within j high small up others
            ]
      ])
      (λ k outside.
      get_or-set_other moved at k (Some x) None
      (λ is. elim outside [
        | inl low ↦ omega (arith, is, low)
        | inr high ↦ omega (arith, is, high, within, space)
      ])
      ∙ others.same k (elim outside [
        | inl low ↦ inl (omega (arith, low))
        | inr high ↦ inr (omega (arith, high, space))
      ]))

  -- an item was taken from a row: those after it moved one cell back
  pub take_laid : {rows : List (List T)} {cells new : List (Option T)} → IsLaid rows cells
      → (n i last : ℕ) → n < length rows → i < length (row_of rows n)
      → last + 1 ≡ length (row_of rows n)
      → ((k : ℕ) → CAPACITY * n + i ≤ k → k < CAPACITY * n + last
      → cell new k ≡ cell (set cells (CAPACITY * n + i) None) (suc k))
      → cell new (CAPACITY * n + last) ≡ None
      → SameOutside (set cells (CAPACITY * n + i) None) new (CAPACITY * n + i)
      (suc (CAPACITY * n + last))
      → IsLaid (set rows n (remove (row_of rows n) i)) new
  take_laid {rows} {cells} {new} laid n i last less within end down left others =
      let xs = row_of rows n in
      let at = CAPACITY * n + i in
      let few = laid.fits n in
      let beside : (k : ℕ) → k ≢ at → cell (set cells at None) k ≡ cell cells k =
      λ k other. get_or-set_other cells at k None None other in
      written laid n less (remove xs i) (omega (arith, length-remove xs i within, few))
      (others.len ∙ length-set cells at None)
      (λ j small.
      elim (cases_lt j i) [
        | inl low ↦
            others.same (CAPACITY * n + j) (inl (omega (arith, low)))
            ∙ beside (CAPACITY * n + j) (λ is. omega (arith, is, low))
            ∙ laid.held n j small ∙ sym (removed_below xs i within j low)
        | inr past ↦
            elim (cases_order j last) [
              | inl same ↦
                  rw same (left ∙ sym (cell_past xs (last + 1) (omega (arith, end))))
                  ∙ sym (removed_above xs i within j past)
              | inr (inl before) ↦
                  down (CAPACITY * n + j) (omega (arith, past)) (omega (arith, before))
                  ∙ beside (suc (CAPACITY * n + j)) (λ is. omega (arith, is, past))
                  ∙ ap (cell cells) (omega arith)
                  ∙ laid.held n (j + 1) (omega (arith, before, end, few))
                  ∙ sym (removed_above xs i within j past)
              | inr (inr behind) ↦
                  others.same (CAPACITY * n + j) (inr (omega (arith, behind)))
                  ∙ beside (CAPACITY * n + j) (λ is. omega (arith, is, behind, end, within))
                  ∙ laid.held n j small ∙ cell_past xs j (omega (arith, behind, end))
                  ∙ sym (cell_past xs (j + 1) (omega (arith, behind, end)))
                  ∙ sym (removed_above xs i within j past)
            ]
      ])
      (λ k outside.
      others.same k (elim outside [
        | inl low ↦ inl (omega (arith, low))
        | inr high ↦ inr (omega (arith, high, end, few))
      ])
      ∙ beside k (λ is. elim outside [
        | inl low ↦ omega (arith, is, low)
        | inr high ↦ omega (arith, is, high, within, few)
      ]))

  -- an item was replaced where it lies
  pub set_laid : {rows : List (List T)} {cells : List (Option T)} → IsLaid rows cells
      → (n i : ℕ) (x : T) → n < length rows → i < length (row_of rows n)
      → IsLaid (set rows n (set (row_of rows n) i x)) (set cells (CAPACITY * n + i) (Some x))
  set_laid {rows} {cells} laid n i x less within =
      let xs = row_of rows n in
      let at = CAPACITY * n + i in
      let few = laid.fits n in
      written laid n less (set xs i x) (omega (arith, length-set xs i x, few))
      (length-set cells at (Some x))
      (λ j small.
      elim (cases_eq j i) [
        | inl same ↦
            rw same (get_or-set_same cells at (Some x) None
            (omega (arith, room laid n less, within, few)) ∙ sym (set_at xs i within x))
        | inr other ↦
            get_or-set_other cells at (CAPACITY * n + j) (Some x) None
            (λ is. other (omega (arith, is)))
            ∙ laid.held n j small ∙ sym (set_beside xs i within x j other)
      ])
      (λ k outside.
      get_or-set_other cells at k (Some x) None
      (λ is. elim outside [
        | inl low ↦ omega (arith, is, low)
        | inr high ↦ omega (arith, is, high, within, few)
      ]))

  abbrev no_items : List T
  no_items = []

  abbrev no_item : Option T
  no_item = None

  -- rows without an item
  pub fresh : IsLaid (replicate ROWS no_items) (replicate (CAPACITY * ROWS) None)
  fresh =
      let bare : (n : ℕ) → row_of (replicate ROWS no_items) n ≡ [] =
      λ n. all_alike ROWS [] n in
      record {
        len = omega (
          arith,
          length-replicate (CAPACITY * ROWS) no_item,
          length-replicate ROWS no_items,
        );
        fits = λ n. rw (bare n) (omega arith);
        held = λ n i small. rw (bare n) (all_alike (CAPACITY * ROWS) None (CAPACITY * n + i));
      }

  -- all cells are empty
  pub all_empty : (cells : List (Option T)) (many : ℕ) → length cells ≡ many
      → ((k : ℕ) → k < many → cell cells k ≡ None) → cells ≡ replicate many None
  all_empty cells many len none =
      ext_get_or None cells (replicate many None) (len ∙ sym (length-replicate many None))
      (λ k within.
      let less : k < many = omega (arith, within, len) in
      none k less ∙ sym (get_or-replicate many k None None less))

  -- the items of one row more were dropped
  module _ {rows : List (List T)} {cells now new : List (Option T)} (laid : IsLaid rows cells)
      (n : ℕ) (bare : (k : ℕ) → k < CAPACITY * n → cell now k ≡ None)
      (kept : (k : ℕ) → CAPACITY * n ≤ k → cell now k ≡ cell cells k)
      (dropped : AreEmpty new (CAPACITY * n) (CAPACITY * n + length (row_of rows n)))
      (others : SameOutside now new (CAPACITY * n) (CAPACITY * n + length (row_of rows n))) where
    pub bare_more : (k : ℕ) → k < CAPACITY * (n + 1) → cell new k ≡ None
    bare_more k less =
        elim (cases_lt k (CAPACITY * n)) [
          | inl low ↦ others.same k (inl low) ∙ bare k low
          | inr past ↦
              elim (cases_lt k (CAPACITY * n + length (row_of rows n))) [
                | inl held ↦ dropped k past held
                | inr high ↦
                    others.same k (inr high) ∙ kept k past
                    ∙ ap (cell cells) (omega (arith, past))
                    ∙ bare_at laid n (k - CAPACITY * n) (omega (arith, past, high))
                    (omega (arith, past, less))
              ]
        ]

    pub kept_still : (k : ℕ) → CAPACITY * (n + 1) ≤ k → cell new k ≡ cell cells k
    kept_still k past =
        others.same k (inr (omega (arith, past, laid.fits n))) ∙ kept k (omega (arith, past))

-- the items of one row came to be as many others
pub lens_same : {T : Type 0} (rows : List (List T)) (n : ℕ) (items : List T)
    → length items ≡ length (row_of rows n) → map length (set rows n items) ≡ map length rows
lens_same [] n items many = refl
lens_same (xs ∷ rows) zero items many = ap (λ k. k ∷ map length rows) many
lens_same (xs ∷ rows) (suc n) items many = ap (λ l. length xs ∷ l) (lens_same rows n items many)

module _ {T : Type 0} {lens : List ℕ} {cells : List (Option T)} {now : List (List T)}
    (s : Seen lens cells now) (n i : ℕ) where
  -- an item was replaced where it lies
  pub item_written : (x : T) → n < ROWS → i < length (row_of now n)
      → IsSegment lens (set cells (CAPACITY * n + i) (Some x))
      × (rows_in ROWS (set cells (CAPACITY * n + i) (Some x)) ≡ set now n (set (row_of now n) i x))
  item_written x less within =
      let xs = row_of now n in
      made
      (set_laid s.laid n i x (omega (arith, less, s.many)) within)
      (s.lens_are ∙ sym (lens_same now n (set xs i x) (length-set xs i x)))
      (length-set now n (set xs i x) ∙ s.many)

  -- an item came to a row: those after it moved one cell on, and it was put between
  pub item_put : {moved : List (Option T)} (x : T) (many : ℕ) → n < ROWS
      → i ≤ length (row_of now n) → length (row_of now n) < CAPACITY
      → many ≡ length (row_of now n) + 1
      → ((k : ℕ) → CAPACITY * n + i ≤ k → k < CAPACITY * n + length (row_of now n)
      → cell moved (suc k) ≡ cell cells k)
      → SameOutside cells moved (CAPACITY * n + i) (suc (CAPACITY * n + length (row_of now n)))
      → IsSegment (set lens n many) (set moved (CAPACITY * n + i) (Some x))
      × (rows_in ROWS (set moved (CAPACITY * n + i) (Some x)) ≡ set now n (insert (row_of now n) i x))
  item_put x many less within space is up others =
      let xs = row_of now n in
      made
      (put_laid s.laid n i x (omega (arith, less, s.many)) within space up others)
      (lens_written now s.lens_are n (insert xs i x) many
      (omega (arith, is, length-insert xs i x within)))
      (length-set now n (insert xs i x) ∙ s.many)

  -- an item was taken from a row: those after it moved one cell back
  pub item_taken : {new : List (Option T)} (last : ℕ) → n < ROWS → i < length (row_of now n)
      → last + 1 ≡ length (row_of now n)
      → ((k : ℕ) → CAPACITY * n + i ≤ k → k < CAPACITY * n + last
      → cell new k ≡ cell (set cells (CAPACITY * n + i) None) (suc k))
      → cell new (CAPACITY * n + last) ≡ None
      → SameOutside (set cells (CAPACITY * n + i) None) new (CAPACITY * n + i)
      (suc (CAPACITY * n + last))
      → IsSegment (set lens n last) new × (rows_in ROWS new ≡ set now n (remove (row_of now n) i))
  item_taken last less within end down left others =
      let xs = row_of now n in
      made
      (take_laid s.laid n i last (omega (arith, less, s.many)) within end down left others)
      (lens_written now s.lens_are n (remove xs i) last
      (omega (arith, end, length-remove xs i within)))
      (length-set now n (remove xs i) ∙ s.many)

-- a segment whose rows have no item
module _ {T : Type 0} where
  abbrev empty_cells : List (Option T)
  empty_cells = replicate (CAPACITY * ROWS) None

  abbrev empty_rows : List (List T)
  empty_rows = replicate ROWS []

  pub fresh_made : IsSegment (replicate ROWS 0) empty_cells × (rows_in ROWS empty_cells ≡ empty_rows)
  fresh_made = made fresh refl (length-replicate {A = List T} ROWS [])

-- how many items a row has
pub lens_at : {T : Type 0} {lens : List ℕ} {cells : List (Option T)} (segment : IsSegment lens cells)
    (n : ℕ) → get_or lens n 0 ≡ length (row_of segment.rows n)
lens_at segment n =
    ap (λ l. get_or l n 0) segment.lens_are ∙ map_get_or length segment.rows n []
