-- The addresses of a set that follow each other without a gap.
use Rattle.std.proofs.Common.{◌≡◌, ℕ, ◌+◌, ◌-◌, ◌^◌, ◌≤◌, ◌<◌, List, [], ◌∷◌, map, true, inl, inr, refl, sym, subst, arith}
use Rattle.std.specs.List.{AllByRecursion}
use Rattle.std.proofs.lemmas.Bool.{cases_lt}
use Rattle.btree_range_map.specs.AnyRange.{AnyRange}
use Rattle.btree_range_map.specs.Counted.{counted_lawful}
use Rattle.btree_range_map.specs.FreeRanges.{item_ranges}
use Rattle.btree_range_map.specs.HeldKeys.{held_interval_is_in_one_range, held_later_is_above}
use Rattle.btree_range_map.specs.Intervals.{Any}
use Rattle.btree_range_map.specs.KeySets.{HoldsKey}
use Rattle.btree_range_map.specs.Neighbours.{BeforeFirst, EachNext}
use Rattle.btree_range_map.specs.Order.{KeyOrder}
use Rattle.btree_range_map.specs.Range.{Holds, IsKeyless, IsKeyRange}
use Rattle.address_keys.specs.Families.{IsFamily}
use Rattle.address_prefixes.specs.Runs.{AreRuns, IsIn, IsMaximalRun, IsRunAround}
use Rattle.address_prefixes.specs.Spans.{HasSpan, span}
use Rattle.address_prefixes.proofs.Runs.{same_address}
use Rattle.address_sets.proofs.Sets.{Coarse, Known, Stored, below_number, coarse_rest, first_held, from_of, holds_is, last_held, not_above_number, number_not_above, past_of, some_by, top_by}
use Rattle.std.proofs.Common.{rules}

module _ {A : Type 0} {order : KeyOrder A} {number : A → ℕ} {at : ℕ → A} {width : ℕ}
    (family : IsFamily order number at width) where
  -- the range is one of the stored ones
  abbrev pub IsStoredRange : List (Stored family) → AnyRange A → Type 0
  IsStoredRange items r = Any (λ i. i.key ≡ r) items

  is_range : (items : List (Stored family)) (r : AnyRange A) → Known family items
      → Coarse family items → IsStoredRange items r → IsKeyRange order r × ¬ IsKeyless order r
  is_range [] r known coarse none = absurd none
  is_range (i ∷ items) r known coarse (inl same) = grind arith
  is_range (i ∷ items) r known coarse (inr later) =
      is_range items r known.1 (coarse_rest family i items coarse) later

  -- a stored range has an address, and addresses alone
  pub has_span : (items : List (Stored family)) (r : AnyRange A) → Known family items
      → Coarse family items → IsStoredRange items r
      → HasSpan number width r
  has_span items r known coarse at = search (rules, is_range, some_by, top_by)

  in_set : (items : List (Stored family)) (r : AnyRange A) (k : A) → IsStoredRange items r
      → Holds order r k → HoldsKey order items k
  in_set [] r k none held = absurd none
  in_set (i ∷ items) r k (inl same) held = inl (subst (λ s. Holds order s k) (sym same) held)
  in_set (i ∷ items) r k (inr later) held = inr (in_set items r k later held)

  abbrev HoldsBoth : List (Stored family) → A → A → Type 0
  HoldsBoth items a b = Any (λ i. Holds order i.key a × Holds order i.key b) items

  turned : (items : List (Stored family)) (a b : A) → HoldsBoth items a b → HoldsBoth items b a
  turned [] a b none = none
  turned (i ∷ items) a b (inl here) = inl (here.1, here.0)
  turned (i ∷ items) a b (inr later) = inr (turned items a b later)

  first_of_both : (items : List (Stored family)) (a b : A) → HoldsBoth items a b
      → HoldsKey order items a
  first_of_both [] a b none = none
  first_of_both (i ∷ items) a b (inl here) = inl here.0
  first_of_both (i ∷ items) a b (inr later) = inr (first_of_both items a b later)

  -- no address is in two of the ranges
  not_twice : (i : Stored family) (items : List (Stored family)) → Coarse family (i ∷ items)
      → (a : A) → order.is_key a → Holds order i.key a → ¬ HoldsKey order items a
  not_twice i items coarse a key here later =
      let above = below_number family a a (held_later_is_above order (counted_lawful family.counted)
      (λ _ _. true) i items coarse a a key key here later) in
      omega (arith, above)

  same_range : (items : List (Stored family)) (r : AnyRange A) → Coarse family items → (a b : A)
      → order.is_key a → IsStoredRange items r → Holds order r a → HoldsBoth items a b
      → Holds order r b
  same_range [] r coarse a b key none has both = absurd none
  same_range (i ∷ items) r coarse a b key (inl same) has (inl here) = grind arith
  same_range (i ∷ items) r coarse a b key (inl same) has (inr later) =
      absurd (not_twice i items coarse a key (subst (λ s. Holds order s a) (sym same) has)
      (first_of_both items a b later))
  same_range (i ∷ items) r coarse a b key (inr later) has (inl here) =
      absurd (not_twice i items coarse a key here.0 (in_set items r a later has))
  same_range (i ∷ items) r coarse a b key (inr later) has (inr there) =
      same_range items r (coarse_rest family i items coarse) a b key later has there

  -- a range that holds one of two addresses that follow each other holds both
  held_together : (items : List (Stored family)) → Coarse family items → (a b : A)
      → order.is_key a → order.is_key b → number b ≡ number a + 1 → HoldsKey order items a
      → HoldsKey order items b → HoldsBoth items a b
  held_together items coarse a b p q next has_a has_b =
      held_interval_is_in_one_range order (counted_lawful family.counted) items coarse a b p q
      (number_not_above family a b (omega (arith, next)))
      (λ k key low high.
      let from = not_above_number family a k low in
      let to = not_above_number family k b high in
      elim (cases_lt (number a) (number k)) [
        | inl more ↦ subst (HoldsKey order items)
            (same_address family b k (omega (arith, next, to, more))) has_b
        | inr not ↦
            subst (HoldsKey order items) (same_address family a k (omega (arith, from, not))) has_a
      ])

  -- the range that holds an address is a run of those that the set holds
  pub run_is : (items : List (Stored family)) (r : AnyRange A) (a : A) → Known family items
      → Coarse family items → IsStoredRange items r → order.is_key a → Holds order r a
      → IsRunAround (λ n. HoldsKey order items (at n)) (2 ^ width) (number a) (span number width r)
  run_is items r a known coarse stored p has =
      let is = is_range items r known coarse stored in
      let bounds = has_span items r known coarse stored in
      let first = first_held family r is.0 is.1 in
      let last = last_held family r is.0 is.1 in
      let lies = (holds_is family r a p).0 has in
      let key_at : (n : ℕ) → n < 2 ^ width → order.is_key (at n) =
      λ n h. let e = family.at_number n h in family.is_address (at n) (omega (arith, e, h)) in (
        (lies.0, omega (arith, lies.1)),
        record {
          fits = omega (arith, bounds.0, bounds.1);
          each =
              λ n is_in. let small : n < 2 ^ width = omega (arith, is_in.1, bounds.0, bounds.1) in
              let e = family.at_number n small in
              in_set items r (at n) stored ((holds_is family r (at n) (key_at n small)).1
              (omega (arith, e, is_in.0), omega (arith, e, is_in.1, bounds.0)));
          starts =
              λ n next held.
              let small : n < 2 ^ width = omega (arith, next, bounds.0, bounds.1) in
              let e = family.at_number n small in
              let key = key_at n small in
              let there = (holds_is family r (at n) key).0
              (same_range items r coarse first.0 (at n) first.1 stored first.2
              (turned items (at n) first.0 (held_together items coarse (at n) first.0 key first.1
              (omega (arith, e, next, first.3)) held (in_set items r first.0 stored first.2)))) in
              omega (arith, there.0, e, next);
          ends =
              λ small held.
              let e = family.at_number (past_of family r - 1 + 1) small in
              let key = key_at (past_of family r - 1 + 1) small in
              let there = (holds_is family r (at (past_of family r - 1 + 1)) key).0
              (same_range items r coarse last.0 (at (past_of family r - 1 + 1)) last.1 stored last.2
              (held_together items coarse last.0 (at (past_of family r - 1 + 1)) last.1 key
              (omega (arith, e, last.3, bounds.0)) (in_set items r last.0 stored last.2) held)) in
              omega (arith, there.1, e, bounds.0);
        },
      )

  abbrev Runs : List (Stored family) → List (ℕ × ℕ)
  Runs items = map (span number width) (item_ranges items)

  each_run : (items : List (Stored family)) → Known family items → Coarse family items
      → (left : List (Stored family)) → Known family left → Coarse family left
      → ((r : AnyRange A) → IsStoredRange left r → IsStoredRange items r)
      → AllByRecursion (λ run. (run.0 ≤ run.1)
      × IsMaximalRun (λ n. HoldsKey order items (at n)) (2 ^ width) run) (Runs left)
  each_run items known coarse [] left_known left_coarse stored = tt
  each_run items known coarse (i ∷ left) left_known left_coarse stored =
      let here = stored i.key (inl refl) in
      let first = first_held family i.key left_known.0 left_coarse.keyed.0 in
      let some = (has_span items i.key known coarse here).0 in (
        (
          omega (arith, some),
          (run_is items i.key first.0 known coarse here first.1 first.2).1,
        ),
        each_run items known coarse left left_known.1 (coarse_rest family i left left_coarse)
            (λ r at. stored r (inr at)),
      )

  some_run : (items : List (Stored family)) (n : ℕ) → n < 2 ^ width → HoldsKey order items (at n)
      → Any (IsIn n) (Runs items)
  some_run [] n small none = none
  some_run (i ∷ items) n small (inl here) =
      let e = family.at_number n small in
      let h = (holds_is family i.key (at n) (family.is_address (at n) (omega (arith, e, small)))).0
      here in
      inl (omega (arith, h.0, e), omega (arith, h.1, e))
  some_run (i ∷ items) n small (inr later) = inr (some_run items n small later)

  before_run : (i : Stored family) (items : List (Stored family)) → Known family (i ∷ items)
      → Coarse family (i ∷ items)
      → BeforeFirst (λ run next. run.1 < next.0) (from_of family i.key, past_of family i.key - 1)
      (Runs items)
  before_run i [] known coarse = tt
  before_run i (j ∷ items) known coarse =
      let last = last_held family i.key known.0 coarse.keyed.0 in
      let first = first_held family j.key known.1.0 coarse.keyed.1.0 in
      let below = below_number family last.0 first.0
      (coarse.rising.0 last.0 first.0 last.1 first.1 last.2 first.2) in
      omega (arith, below, last.3, first.3)

  rising_runs : (items : List (Stored family)) → Known family items → Coarse family items
      → EachNext (λ run next. run.1 < next.0) (Runs items)
  rising_runs [] known coarse = tt
  rising_runs (i ∷ items) known coarse =
      (before_run i items known coarse, rising_runs items known.1 (coarse_rest family i items coarse))

  -- the runs of a set are those of its stored ranges
  pub are_runs : (items : List (Stored family)) → Known family items → Coarse family items
      → AreRuns (λ n. HoldsKey order items (at n)) (2 ^ width) (Runs items)
  are_runs items known coarse = grind (arith, each_run, some_run, rising_runs)
