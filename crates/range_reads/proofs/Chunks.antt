-- The first and the last of the items that are left of an iterator.
use Rattle.std.proofs.Common.{◌≡◌, ℕ, suc, ◌+◌, ◌-◌, ◌<◌, ◌≤◌, List, [], ◌∷◌, ◌++◌, length, get_or, take, drop, Option, Some, None, refl, ap, subst, sym, ◌∙◌, arith}
use Rattle.std.specs.Prelude.{MatchOption}
use Rattle.std.specs.Option.{ForSome, is_some, unwrap_or}
use Rattle.range_runs.proofs.Windows.{last_of_run}
use Rattle.range_reads.proofs.Common.{drop-drop, drop_more, false≢true}
use Rattle.range_store.specs.ListRanks.{IsAt}
use Rattle.range_reads.specs.Iteration.{IsIterator}
use Rattle.range_runs.specs.Window.{index_after}

module _ {T P : Type 0} {items : List T} {is_good : P → Type 0} {rank : P → ℕ} {run : List T}
    {front back : Option P} {left : ℕ} (before : IsIterator items is_good rank run front back left)
    (some : 0 < left) where
  abbrev place : ℕ
  place = index_after rank back - left

  -- the next item, with the run and the position that are left
  pub record IsNext (item : T) (rest : List T) (after : Option P) : Type 0 where
    pub next : drop place items ≡ item ∷ drop (place + 1) items
    pub rest_is : rest ≡ take (length rest) (drop (place + 1) items)
    pub after_at : IsAt is_good rank (length items) after (place + 1 + length rest)

  pub next_steps : (item : T) (rest : List T) (after : Option P) → IsNext item rest after
      → take left (drop place items)
      ≡ item ∷ take (left - 1) (drop (index_after rank back - (left - 1)) items)
  next_steps item rest after is =
      let many : left ≡ suc (left - 1) = omega (arith, some) in
      let moved : place + 1 ≡ index_after rank back - (left - 1) =
      omega (arith, some, before.enough) in
      ap (λ n. take n (drop place items)) many ∙ ap (take (suc (left - 1))) is.next
      ∙ ap (λ at. item ∷ take (left - 1) (drop at items)) moved

  pub next_iterator : (item : T) (rest : List T) (after : Option P) → IsNext item rest after
      → IsIterator items is_good rank rest after back (left - 1)
  next_iterator item rest after is =
      let moved : place + 1 ≡ index_after rank back - (left - 1) =
      omega (arith, some, before.enough) in
      record {
        last = before.last;
        in_range = before.in_range;
        enough = omega (arith, before.enough);
        run_is = rw (← moved) is.rest_is;
        front_at = rw (← moved) is.after_at;
      }

  pub from_run : (rest : List T) (item : T) → run ≡ item ∷ rest → IsNext item rest front
  from_run rest item at = from (drop place items) refl (rw at at before.run_is)
    where
      from : (ys : List T) → drop place items ≡ ys
          → item ∷ rest ≡ take (suc (length rest)) ys → IsNext item rest front
      from [] none same = absurd (omega (arith, ap length same))
      from (y ∷ ys) here same =
          let later : ys ≡ drop (place + 1) items =
          ap (drop 1) (sym here) ∙ drop-drop 1 place items in
          let first : y ≡ item = ap (λ zs. get_or zs 0 y) (sym same) in
          let far : place + length run ≡ place + 1 + length rest = omega (arith, ap length at) in
          record {
            next = here ∙ ap (λ z. z ∷ ys) first ∙ ap (λ zs. item ∷ zs) later;
            rest_is = ap (drop 1) same ∙ ap (take (length rest)) later;
            after_at =
                subst (IsAt is_good rank (length items) front) far before.front_at;
          }

  -- an empty run ends at a position
  pub front_good : (p : P) → length run ≡ 0 → front ≡ Some p → is_good p × (rank p ≡ place)
  front_good p none is =
      let at = rw is at before.front_at in (at.0, omega (arith, at.1, none))

  pub from_chunk : (p : P) (item : T) (rest : List T) (after : Option P) → length run ≡ 0
      → front ≡ Some p → item ≡ get_or items (rank p) item
      → rest ≡ take (length rest) (drop (rank p + 1) items)
      → IsAt is_good rank (length items) after (rank p + 1 + length rest)
      → IsNext item rest after
  from_chunk p item rest after none is first rest_is after_at =
      let here : rank p ≡ place = (front_good p none is).1 in
      record {
        next =
            drop_more items place item (omega (arith, some, before.in_range, before.enough))
            ∙ ap (λ z. z ∷ drop (place + 1) items)
            (ap (λ i. get_or items i item) (sym here) ∙ sym first);
        rest_is = rw (← here) rest_is;
        after_at = rw (← here) after_at;
      }

module _ {T P : Type 0} (items : List T) (is_good : P → Type 0) (rank : P → ℕ) where
  behind_last : (back : Option P)
      → MatchOption back (items ≡ []) (λ p. is_good p × (rank p + 1 ≡ length items))
      → ForSome back is_good × (index_after rank back ≡ length items)
  behind_last None none = (λ q is. absurd (false≢true (ap is_some is)), sym (ap length none))
  behind_last (Some p) last =
      (λ q is. subst is_good (ap (λ o. unwrap_or o p) is) last.0, last.1)

  -- all items of a container
  pub whole_iterator : (front back : Option P) (left : ℕ)
      → IsAt is_good rank (length items) front 0
      → MatchOption back (items ≡ []) (λ p. is_good p × (rank p + 1 ≡ length items))
      → left ≡ length items → IsIterator items is_good rank [] front back left
  whole_iterator front back left first last many =
      let behind = behind_last back last in
      let start : 0 ≡ index_after rank back - left + 0 = omega (arith, behind.1, many) in
      record {
        last = behind.0;
        in_range = omega (arith, behind.1);
        enough = omega (arith, behind.1, many);
        run_is = refl;
        front_at = subst (IsAt is_good rank (length items) front) start first;
      }

  -- a position before another, or none before the first item
  pub place_of_prev : (p : P) (prev : Option P)
      → MatchOption prev (rank p ≡ 0) (λ q. is_good q × (rank q + 1 ≡ rank p))
      → index_after rank prev ≡ rank p
  place_of_prev p None none = sym none
  place_of_prev p (Some q) is = is.1

  good_prev : (p : P) (prev : Option P)
      → MatchOption prev (rank p ≡ 0) (λ q. is_good q × (rank q + 1 ≡ rank p))
      → ForSome prev is_good
  good_prev p None none = λ q is. absurd (false≢true (ap is_some is))
  good_prev p (Some q) before = λ r is. subst is_good (ap (λ o. unwrap_or o q) is) before.0

  -- what is left before the last item
  pub prev_iterator : (run : List T) (front back prev : Option P) (p : P) (left : ℕ)
      → IsIterator items is_good rank run front back left → 0 < left → back ≡ Some p
      → MatchOption prev (rank p ≡ 0) (λ q. is_good q × (rank q + 1 ≡ rank p))
      → IsIterator items is_good rank run front prev (left - 1)
  prev_iterator run front back prev p left now some is before =
      let end : index_after rank back ≡ rank p + 1 = ap (index_after rank) is in
      let start : index_after rank back - left ≡ index_after rank prev - (left - 1) =
      omega (arith, end, some, now.enough, place_of_prev p prev before) in
      record {
        last = good_prev p prev before;
        in_range = omega (arith, end, now.in_range, place_of_prev p prev before);
        enough = omega (arith, end, now.enough, place_of_prev p prev before);
        run_is = rw (← start) now.run_is;
        front_at = rw (← start) now.front_at;
      }

  -- the last of the items that are left
  pub last_steps : (back prev : Option P) (p : P) (left : ℕ) (item : T) → back ≡ Some p
      → MatchOption prev (rank p ≡ 0) (λ q. is_good q × (rank q + 1 ≡ rank p))
      → item ≡ get_or items (rank p) item → 0 < left → left ≤ index_after rank back
      → index_after rank back ≤ length items
      → take left (drop (index_after rank back - left) items)
      ≡ take (left - 1) (drop (index_after rank prev - (left - 1)) items) ++ item ∷ []
  last_steps back prev p left item is before read some enough within =
      let end : index_after rank back ≡ rank p + 1 = ap (index_after rank) is in
      let start : index_after rank back - left ≡ index_after rank prev - (left - 1) =
      omega (arith, end, some, enough, place_of_prev p prev before) in
      last_of_run items (index_after rank back - left) left (rank p) item some
      (omega (arith, enough, within)) (omega (arith, end, enough)) read
      ∙ ap (λ place. take (left - 1) (drop place items) ++ item ∷ []) start

module _ {A T : Type 0} (view : A → T) (items rest : List T) where
  -- what a whole list gives from either end, whatever is left then
  pub first_given : (result : Option A)
      → MatchOption result ((items ≡ []) × (rest ≡ [])) (λ x. items ≡ view x ∷ rest)
      → MatchOption result (items ≡ []) (λ x. (others : List T) × (items ≡ view x ∷ others))
  first_given None is = is.0
  first_given (Some x) is = (rest, is)

  pub last_given : (result : Option A)
      → MatchOption result ((items ≡ []) × (rest ≡ [])) (λ x. items ≡ rest ++ view x ∷ [])
      → MatchOption result (items ≡ [])
      (λ x. (others : List T) × (items ≡ others ++ view x ∷ []))
  last_given None is = is.0
  last_given (Some x) is = (rest, is)
