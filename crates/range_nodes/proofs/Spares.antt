-- What is left of a list of slots, and of a list of nodes, but for its spares.
use Rattle.std.proofs.Common.{◌≡◌, ◌≢◌, ℕ, zero, suc, ◌+◌, ◌<◌, ◌≤◌, List, [], ◌∷◌, ◌++◌, length, get_or, Option, Some, None, is_some, IsSome, count_by, refl, sym, ap, subst, ◌∙◌, inl, inr, arith, length-append}
use Rattle.std.proofs.Math.ListN.{set, length-set}
use Rattle.std.proofs.lemmas.Bool.{cases_eq, cases_lt}
use Rattle.std.proofs.lemmas.List.{get_or-set_other, get_or-set_same, get_or_past, get_or_append_left, get_or_at, set-get_or, set_comm}
use Rattle.std.proofs.lemmas.List.Sums.{sum_by-cons}
use Rattle.range_nodes.specs.Children.{FitsFull, FitsPlace}
use Rattle.range_nodes.specs.Heap.{Heap, node_of, HasNode, HasRoomFor, SameNodes, node_count, with_item, FitsChild, Writes, Stores, Removes, node_items, node_children}
use Rattle.range_nodes.specs.Occurrences.{occurrences}
use Rattle.range_nodes.proofs.Occurrences.{occurrences-append, occurrences-cons, occurrences-nil, occurrences_here, occurrences_itself, occurrences_other}
use Rattle.range_nodes.specs.Rows.{row_of}
use Rattle.range_nodes.specs.Spares.{without, content, contents, heap_of, IsWhole}
use Rattle.range_nodes.proofs.Slots.{slot_count}

module _ {X : Type 0} where
  without_here : (ns : List ℕ) (slots : List (Option X)) (k : ℕ) → 0 < occurrences k ns
      → get_or (without ns slots) k None ≡ None
  unfolding without
  without_here [] slots k among = absurd (omega (arith, among, occurrences-nil k))
  without_here (n ∷ ns) slots k among =
      elim (cases_eq k n) [
        | inl same ↦ rw same (grind (arith, get_or-set_same, get_or_past, length-set))
        | inr other ↦
            grind (
              arith,
              get_or-set_other,
              without_here ns slots k (omega (arith, occurrences-cons, occurrences_other)),
            )
      ]

  without_other : (ns : List ℕ) (slots : List (Option X)) (k : ℕ) → occurrences k ns ≡ 0
      → get_or (without ns slots) k None ≡ get_or slots k None
  unfolding without
  without_other [] slots k none = refl
  without_other (n ∷ ns) slots k none =
      get_or-set_other (without ns slots) n k None None
      (λ same. absurd (grind (arith, occurrences_here)))
      ∙ without_other ns slots k (omega (arith, none, occurrences-cons k n ns))

  without_count : (ns : List ℕ) (slots : List (Option X)) → ((k : ℕ) → occurrences k ns ≤ 1)
      → ((k : ℕ) → 0 < occurrences k ns → IsSome (get_or slots k None))
      → count_by is_some (without ns slots) + length ns ≡ count_by is_some slots
  unfolding without
  without_count [] slots once some = omega arith
  without_count (n ∷ ns) slots once some =
      let apart : occurrences n ns ≡ 0 =
      omega (arith, once n, occurrences-cons n n ns, occurrences_itself n) in
      let there : IsSome (get_or (without ns slots) n None) =
      rw (without_other ns slots n apart) (some n (occurrences_here n ns)) in
      omega (
        arith,
        slot_count (without ns slots) n there None,
        without_count ns slots (λ k. omega (arith, once k, occurrences-cons k n ns))
            (λ k among. some k (omega (arith, among, occurrences-cons k n ns))),
      )

  without_set : (ns : List ℕ) (slots : List (Option X)) (k : ℕ) (slot : Option X)
      → occurrences k ns ≡ 0 → without ns (set slots k slot) ≡ set (without ns slots) k slot
  unfolding without
  without_set [] slots k slot none = refl
  without_set (n ∷ ns) slots k slot none =
      ap (λ zs. set zs n None)
      (without_set ns slots k slot (omega (arith, none, occurrences-cons k n ns)))
      ∙ set_comm (without ns slots) k n slot None
      (λ same. absurd (grind (arith, occurrences_here)))

module _ {T : Type 0} where
  contents_len : (lists : List (List ℕ)) (rows : List (List T))
      → length (contents lists rows) ≡ length lists
  unfolding contents
  contents_len [] rows = refl
  contents_len (ks ∷ lists) [] = ap suc (contents_len lists [])
  contents_len (ks ∷ lists) (xs ∷ rows) = ap suc (contents_len lists rows)

  contents_read : (lists : List (List ℕ)) (rows : List (List T)) (k : ℕ) → k < length lists
      → get_or (contents lists rows) k None ≡ Some (content (row_of rows k) (row_of lists k))
  unfolding contents
  contents_read [] rows k within = absurd (omega arith)
  contents_read (ks ∷ lists) [] zero within = refl
  contents_read (ks ∷ lists) [] (suc k) within = contents_read lists [] k (omega arith)
  contents_read (ks ∷ lists) (xs ∷ rows) zero within = refl
  contents_read (ks ∷ lists) (xs ∷ rows) (suc k) within = contents_read lists rows k (omega arith)

  contents_count : (lists : List (List ℕ)) (rows : List (List T))
      → count_by is_some (contents lists rows) ≡ length lists
  unfolding contents
  contents_count [] rows = refl
  contents_count (ks ∷ lists) [] = omega (arith, sum_by-cons, contents_count lists [])
  contents_count (ks ∷ lists) (xs ∷ rows) = omega (arith, sum_by-cons, contents_count lists rows)

  contents_set : (lists : List (List ℕ)) (rows : List (List T)) (n : ℕ) (xs : List T)
      → n < length rows
      → contents lists (set rows n xs)
      ≡ set (contents lists rows) n (Some (content xs (row_of lists n)))
  unfolding contents
  contents_set lists [] n xs within = absurd (omega arith)
  contents_set [] (ys ∷ rows) zero xs within = refl
  contents_set [] (ys ∷ rows) (suc n) xs within = refl
  contents_set (ks ∷ lists) (ys ∷ rows) zero xs within = refl
  contents_set (ks ∷ lists) (ys ∷ rows) (suc n) xs within =
      ap (λ zs. Some (content ys ks) ∷ zs) (contents_set lists rows n xs (omega arith))

module _ {T : Type 0} (lists : List (List ℕ)) (rows : List (List T)) (spares : List ℕ) where
  abbrev heap : Heap T
  heap = heap_of lists rows spares

  spare_read : (k : ℕ) → 0 < occurrences k spares → node_of heap k ≡ None
  spare_read k among = without_here spares (contents lists rows) k among

  slot_seen : (k : ℕ) → k < length lists → occurrences k spares ≡ 0
      → node_of heap k ≡ Some (content (row_of rows k) (row_of lists k))
  slot_seen k within none =
      without_other spares (contents lists rows) k none ∙ contents_read lists rows k within

  -- a node that is seen is no spare
  in_use : (k : ℕ) → HasNode heap k → occurrences k spares ≡ 0
  in_use k present = grind (arith, spare_read)

  slot_past : (k : ℕ) → length lists ≤ k → node_of heap k ≡ None
  slot_past k past =
      elim (cases_lt 0 (occurrences k spares)) [
        | inl among ↦ spare_read k among
        | inr few ↦
            without_other spares (contents lists rows) k (omega (arith, few))
            ∙ get_or_past (contents lists rows) k None
            (omega (arith, past, contents_len lists rows))
      ]

  inside : (k : ℕ) → HasNode heap k → k < length lists
  inside k present = grind (arith, slot_past)

module _ {T : Type 0} {lists : List (List ℕ)} {rows : List (List T)} {spares : List ℕ}
    (whole : IsWhole lists rows spares) where
  pub number_there : (k : ℕ) → HasNode (heap_of lists rows spares) k → k < length lists
  number_there k present = inside lists rows spares k present

  pub row_there : (k : ℕ) → HasNode (heap_of lists rows spares) k → k < length rows
  row_there k present = omega (arith, whole.there, number_there k present)

  pub items_seen : (k : ℕ) → HasNode (heap_of lists rows spares) k
      → node_items (heap_of lists rows spares) k ≡ row_of rows k
  items_seen k present = grind (arith, slot_seen, number_there, in_use)

  pub children_seen : (k : ℕ) → HasNode (heap_of lists rows spares) k
      → node_children (heap_of lists rows spares) k ≡ row_of lists k
  children_seen k present = grind (arith, slot_seen, number_there, in_use)

  pub counted : node_count (heap_of lists rows spares) + length spares ≡ length lists
  counted =
      without_count spares (contents lists rows) whole.once
      (λ k among. rw (contents_read lists rows k (whole.within k among)) refl)
      ∙ contents_count lists rows

  pub spares_left : (more : ℕ) → HasRoomFor (heap_of lists rows spares) more
      → more ≤ length spares
  spares_left more room = omega (arith, room, counted)

  -- a node that is seen leaves fewer spares than nodes
  pub fewer_spares : (k : ℕ) → HasNode (heap_of lists rows spares) k
      → length spares + 1 ≤ length lists
  fewer_spares k present =
      omega (arith, counted, slot_count (heap_of lists rows spares).slots k present None)

-- a number got these children and items, which left these spares, and made this of the nodes
pub record Leaves {T : Type 0} (lists : List (List ℕ)) (rows : List (List T)) (spares : List ℕ)
    (n : ℕ) (ks : List ℕ) (items : List T) (left : List ℕ) (Became : Heap T → Heap T → Type 0)
    : Type 0 where
  pub whole : IsWhole (set lists n ks) (set rows n items) left
  pub nodes : Became (heap_of lists rows spares) (heap_of (set lists n ks) (set rows n items) left)

module _ {T : Type 0} {lists : List (List ℕ)} {rows : List (List T)} {spares : List ℕ}
    (whole : IsWhole lists rows spares) (n : ℕ) (there : n < length lists) (ks : List ℕ)
    (items : List T) where
  row_here : row_of (set rows n items) n ≡ items
  row_here = get_or-set_same rows n items [] (omega (arith, there, whole.there))

  list_here : row_of (set lists n ks) n ≡ ks
  list_here = get_or-set_same lists n ks [] there

  row_other : (k : ℕ) → k ≢ n → row_of (set rows n items) k ≡ row_of rows k
  row_other k other = get_or-set_other rows n k items [] other

  list_other : (k : ℕ) → k ≢ n → row_of (set lists n ks) k ≡ row_of lists k
  list_other k other = get_or-set_other lists n k ks [] other

  -- these are spares still
  fewer_whole : (left : List ℕ) → ((k : ℕ) → occurrences k left ≤ occurrences k spares)
      → occurrences n left ≡ 0 → IsWhole (set lists n ks) (set rows n items) left
  fewer_whole left fewer apart =
      let other : (k : ℕ) → 0 < occurrences k left → k ≢ n = λ k among same.
      omega (arith, among, apart, ap (λ m. occurrences m left) same) in
      let was : (k : ℕ) → 0 < occurrences k left → 0 < occurrences k spares = λ k among.
      omega (arith, among, fewer k) in
      record {
        there = omega (arith, whole.there, length-set lists n ks, length-set rows n items);
        bare = λ k past. row_other k (λ same. omega (arith, past, same, there, length-set lists n ks))
            ∙ whole.bare k (omega (arith, past, length-set lists n ks));
        within = λ k among. omega (arith, whole.within k (was k among), length-set lists n ks);
        no_items = λ k among. row_other k (other k among) ∙ whole.no_items k (was k among);
        no_children = λ k among. list_other k (other k among) ∙ whole.no_children k (was k among);
        once = λ k. omega (arith, whole.once k, fewer k);
      }

  here : (left : List ℕ) → occurrences n left ≡ 0
      → node_of (heap_of (set lists n ks) (set rows n items) left) n ≡ Some (content items ks)
  here left apart =
      slot_seen (set lists n ks) (set rows n items) left n
      (omega (arith, there, length-set lists n ks)) apart
      ∙ rw (row_here, list_here) refl

  -- any other number has what it had, if it is as often a spare
  same_slot : (left : List ℕ) (k : ℕ) → k ≢ n → occurrences k left ≡ occurrences k spares
      → node_of (heap_of (set lists n ks) (set rows n items) left) k
      ≡ node_of (heap_of lists rows spares) k
  same_slot left k other often =
      elim (cases_lt 0 (occurrences k spares)) [
        | inl among ↦
            spare_read (set lists n ks) (set rows n items) left k (omega (arith, among, often))
            ∙ sym (spare_read lists rows spares k among)
        | inr few ↦
            elim (cases_lt k (length lists)) [
              | inl within ↦
                  slot_seen (set lists n ks) (set rows n items) left k
                  (omega (arith, within, length-set lists n ks)) (omega (arith, few, often))
                  ∙ rw (row_other k other, list_other k other) refl
                  ∙ sym (slot_seen lists rows spares k within (omega (arith, few)))
              | inr past ↦
                  slot_past (set lists n ks) (set rows n items) left k
                  (omega (arith, past, length-set lists n ks))
                  ∙ sym (slot_past lists rows spares k past)
            ]
      ]

  -- a node was written
  pub edited : HasNode (heap_of lists rows spares) n
      → Leaves lists rows spares n ks items spares (λ old new. Writes old new n items ks)
  edited present =
      let apart = in_use lists rows spares n present in
      let now = here spares apart in
      let kept = fewer_whole spares (λ k. omega arith) apart in
      record {
        whole = kept;
        nodes = record {
          was = present;
          present = rw now refl;
          items_are = rw now refl;
          children_are = rw now refl;
          others = λ k other. same_slot spares k other refl;
          len = omega (arith, counted whole, counted kept, length-set lists n ks);
          capacity = length-set lists n ks;
        };
      }

  -- a spare got what a new node has
  pub filled : {left : List ℕ} → spares ≡ n ∷ left
      → Leaves lists rows spares n ks items left (λ old new. Stores old new n items ks)
  filled {left} parts =
      let told : (k : ℕ) → occurrences k spares ≡ occurrences k (n ∷ []) + occurrences k left
      = λ k. ap (occurrences k) parts ∙ occurrences-cons k n left in
      let apart : occurrences n left ≡ 0 =
      omega (arith, told n, occurrences_itself n, whole.once n) in
      let now = here left apart in
      let kept = fewer_whole left (λ k. omega (arith, told k)) apart in
      record {
        whole = kept;
        nodes = record {
          fresh = spare_read lists rows spares n (omega (arith, told n, occurrences_itself n));
          present = rw now refl;
          items_are = rw now refl;
          children_are = rw now refl;
          others = λ k other.
              same_slot left k other
              (omega (arith, told k, occurrences_other k n (λ same. other (sym same))));
          len =
              omega (
                arith,
                counted whole,
                counted kept,
                length-set lists n ks,
                ap length parts,
              );
          capacity = length-set lists n ks;
        };
      }

  -- a node became a spare
  pub emptied : HasNode (heap_of lists rows spares) n → items ≡ [] → ks ≡ []
      → Leaves lists rows spares n ks items (n ∷ spares) (λ old new. Removes old new n)
  emptied present no_items no_children =
      let apart = in_use lists rows spares n present in
      let kept = fewer_whole spares (λ k. omega arith) apart in
      let told : (k : ℕ) → occurrences k (n ∷ spares) ≡ occurrences k (n ∷ [])
      + occurrences k spares = λ k. occurrences-cons k n spares in
      let freed : IsWhole (set lists n ks) (set rows n items) (n ∷ spares)
      = grind (arith, occurrences_other, occurrences_itself, row_here, list_here, length-set) in
      record {
        whole = freed;
        nodes = record {
          was = present;
          gone = spare_read (set lists n ks) (set rows n items) (n ∷ spares) n
              (occurrences_here n spares);
          others = λ k other.
              same_slot (n ∷ spares) k other
              (omega (arith, told k, occurrences_other k n (λ same. other (sym same))));
          len = omega (arith, counted whole, counted freed, length-set lists n ks);
          capacity = length-set lists n ks;
        };
      }

-- a number with nothing was added, as a spare
module _ {T : Type 0} {lists : List (List ℕ)} {rows : List (List T)} {spares : List ℕ}
    (whole : IsWhole lists rows spares) (n : ℕ) (next : n ≡ length lists)
    (fits : n < length rows) where
  more : (k : ℕ)
      → occurrences k (spares ++ n ∷ []) ≡ occurrences k spares + occurrences k (n ∷ [])
  more k = occurrences-append k spares (n ∷ [])

  longer : length (lists ++ [] ∷ []) ≡ length lists + 1
  longer = length-append lists ([] ∷ [])

  list_kept : (k : ℕ) → k < length lists → row_of (lists ++ [] ∷ []) k ≡ row_of lists k
  list_kept k within = get_or_append_left lists ([] ∷ []) [] k within

  apart : occurrences n spares ≡ 0
  apart =
      elim (cases_lt 0 (occurrences n spares)) [
        | inl among ↦ absurd (omega (arith, whole.within n among, next))
        | inr few ↦ omega (arith, few)
      ]

  either : {k : ℕ} → {A : Type 0} → 0 < occurrences k (spares ++ n ∷ [])
      → (k ≡ n → A) → (0 < occurrences k spares → A) → A
  either {k} among this before =
      elim (cases_eq k n) [
        | inl same ↦ this same
        | inr other ↦
            before
            (omega (arith, among, more k, occurrences_other k n (λ same. other (sym same))))
      ]

  added_whole : IsWhole (lists ++ [] ∷ []) rows (spares ++ n ∷ [])
  added_whole = record {
    there = omega (arith, longer, next, fits);
    bare = λ k past. whole.bare k (omega (arith, longer, past));
    within = λ k among.
        either among (λ same. omega (arith, same, next, longer))
        (λ was. omega (arith, whole.within k was, longer));
    no_items = λ k among.
        either among (λ same. rw same (whole.bare n (omega (arith, next))))
        (λ was. whole.no_items k was);
    no_children = λ k among.
        either among (λ same. rw same (get_or_at lists [] [] [] n (sym next)))
        (λ was. list_kept k (whole.within k was) ∙ whole.no_children k was);
    once = λ k.
        elim (cases_eq k n) [
          | inl same ↦ rw same (omega (arith, more n, apart, occurrences_itself n))
          | inr other ↦
              omega (
                arith,
                more k,
                whole.once k,
                occurrences_other k n (λ same. other (sym same)),
              )
        ];
  }

  pub added : IsWhole (lists ++ [] ∷ []) rows (spares ++ n ∷ [])
      × SameNodes (heap_of lists rows spares) (heap_of (lists ++ [] ∷ []) rows (spares ++ n ∷ []))
  added = (
    added_whole,
    record {
      nodes = λ k.
          grind (
            arith,
            spare_read,
            more,
            occurrences_itself,
            slot_seen,
            occurrences_other,
            slot_past,
            list_kept,
            longer,
          );
      len = omega (
        arith,
        counted whole,
        counted added_whole,
        longer,
        length-append spares (n ∷ []),
      );
    },
  )

-- rows that grew, but have what they had
module _ {T : Type 0} {lists : List (List ℕ)} {was : List (List T)} {spares : List ℕ}
    (now : List (List T)) (whole : IsWhole lists was spares) (long : length was ≤ length now)
    (kept : (k : ℕ) → row_of now k ≡ row_of was k) where
  pub roomier : IsWhole lists now spares
      × SameNodes (heap_of lists was spares) (heap_of lists now spares)
  roomier = grind (arith, slot_seen, spare_read, slot_past, counted)

-- a spare got items alone, which left these spares
pub record Stocked {T : Type 0} (lists : List (List ℕ)) (rows : List (List T)) (spares : List ℕ)
    (n : ℕ) (items : List T) (left : List ℕ) : Type 0 where
  pub whole : IsWhole lists (set rows n items) left
  pub nodes : Stores (heap_of lists rows spares) (heap_of lists (set rows n items) left) n items []

-- a spare has nothing, and may get items
module _ {T : Type 0} {lists : List (List ℕ)} {rows : List (List T)} {spares : List ℕ}
    (whole : IsWhole lists rows spares) {n : ℕ} {left : List ℕ} (parts : spares ≡ n ∷ left) where
  among : 0 < occurrences n spares
  among = omega (arith, ap (occurrences n) parts, occurrences-cons, occurrences_itself)

  pub spare_there : n < length lists
  spare_there = whole.within n among

  pub spare_row : n < length rows
  spare_row = omega (arith, whole.there, spare_there)

  pub bare_row : row_of rows n ≡ []
  bare_row = whole.no_items n among

  pub bare_children : row_of lists n ≡ []
  bare_children = whole.no_children n among

  -- a node in use is no spare
  pub apart_from_spare : (k : ℕ) → HasNode (heap_of lists rows spares) k → k ≢ n
  apart_from_spare k present same =
      omega (arith, in_use lists rows spares k present, among, ap (λ m. occurrences m spares) same)

  pub stocked : (items : List T) → Stocked lists rows spares n items left
  stocked items =
      let filled = filled whole n spare_there [] items parts in
      let same : set lists n [] ≡ lists = rw (← bare_children) (set-get_or lists n []) in
      record {
        whole = subst (λ l. IsWhole l (set rows n items) left) same filled.whole;
        nodes = subst (λ l. Stores (heap_of lists rows spares) (heap_of l (set rows n items) left) n
            items []) same filled.nodes;
      }

-- no node at all
pub none_whole : {T : Type 0} (lists : List (List ℕ)) (rows : List (List T)) (spares : List ℕ)
    → lists ≡ [] → rows ≡ [] → spares ≡ [] → IsWhole lists rows spares
none_whole lists rows spares no_lists no_rows no_spares = grind (arith, occurrences-nil)

-- another item was written in the place of one
module _ {T : Type 0} {lists : List (List ℕ)} {rows : List (List T)} {spares : List ℕ}
    (whole : IsWhole lists rows spares) (n i : ℕ) (x : T)
    (present : HasNode (heap_of lists rows spares) n) where
  pub item_written : heap_of lists (set rows n (set (row_of rows n) i x)) spares
      ≡ with_item (heap_of lists rows spares) n i x
  item_written =
      grind (arith, in_use, contents_set, row_there, without_set, number_there, slot_seen)

-- what fits a node fits its numbers
pub fits_full : {T : Type 0} (child : Option ℕ) (xs : List T) (ks : List ℕ) → length xs ≡ 11
    → FitsChild child xs ks → FitsFull child ks
fits_full child xs ks full fits = grind arith

pub fits_place : {T : Type 0} (child : Option ℕ) (place : ℕ) (xs : List T) (ks : List ℕ)
    → place ≤ length xs + 1 → length xs < 11 → FitsChild child xs ks → FitsPlace child place ks
fits_place None place xs ks near room fits = tt
fits_place (Some k) place xs ks near room fits =
    (omega (arith, fits), omega (arith, near, fits), omega (arith, room, fits))
