-- No shorter list of prefixes has just the addresses of runs.
use Rattle.std.proofs.Common.{ℕ, ◌+◌, ◌-◌, ◌^◌, ◌≤◌, ◌<◌, ◌↔◌, ◌⊎◌, List, [], ◌∷◌, length, inl, inr, sym, subst, arith, length-append}
use Rattle.std.specs.List.{AllByRecursion}
use Rattle.std.proofs.lemmas.Bool.{cases_lt}
use Rattle.std.proofs.Math.Pow.{pow_pos}
use Rattle.btree_range_map.specs.Intervals.{Any}
use Rattle.btree_range_map.specs.Order.{KeyOrder}
use Rattle.address_keys.specs.Families.{IsFamily}
use Rattle.address_prefixes.specs.Prefixes.{HasAddress, IsPrefix, SomeHasAddress}
use Rattle.address_prefixes.specs.Runs.{IsIn}
use Rattle.address_prefixes.specs.Tiles.{all_tiles}
use Rattle.address_prefixes.specs.declared.prefix.Prefix.{Prefix}
use Rattle.address_prefixes.proofs.Fewest.{Fits, fewest}
use Rattle.address_prefixes.proofs.RunTiles.{Tiles, run_are}
use Rattle.address_prefixes.proofs.Runs.{AreRising, Each, Runs, StartFrom, later_start, number_at}

module _ {A : Type 0} {order : KeyOrder A} {number : A → ℕ} {at : ℕ → A} {width : ℕ}
    (family : IsFamily order number at width) (Q : A → Type 0) where
  low_is : (run : ℕ × ℕ) (runs : List (ℕ × ℕ)) → Each family Q (run ∷ runs) → AreRising (run ∷ runs)
      → (n : ℕ) → Any (IsIn n) (run ∷ runs) → run.0 ≤ n
  low_is run runs each rising n (inl here) = here.0
  low_is run [] each rising n (inr none) = absurd none
  low_is run (next ∷ runs) each rising n (inr later) =
      grind (arith, low_is next runs each.1 rising.1 n later)

  -- a prefix that lies before a border, or after it with such addresses alone
  record Sits (border : ℕ) (q : Prefix A) : Type 0 where
    prefix : IsPrefix number width q
    side : (number q.last < border)
        ⊎ ((border ≤ number q.network) × ((a : A) → order.is_key a → HasAddress number a q → Q a))

  -- what there is from a border on is in the runs
  abbrev AreAllFrom : ℕ → List (ℕ × ℕ) → Type 0
  AreAllFrom border runs =
      (n : ℕ) → border ≤ n → n < 2 ^ width → Q (at n) → Any (IsIn n) runs

  sorted : (border : ℕ) (run : ℕ × ℕ) (runs : List (ℕ × ℕ)) → Each family Q (run ∷ runs)
      → AreRising (run ∷ runs) → AreAllFrom border (run ∷ runs) → border ≤ run.0
      → (q : Prefix A) → Sits border q
      → Fits family run.0 (run.1 + 1) q × Sits (run.1 + 1) q
  sorted border run runs each rising all low q sits =
      let ordered = each.0.0 in
      let ends = sits.prefix.ends in
      let positive = pow_pos (width - q.length) in
      let last_fits = sits.prefix.fits in
      let whole : number q.network ≤ number q.last = omega (arith, ends, positive) in
      let first_fits : number q.network < 2 ^ width = omega (arith, whole, last_fits) in
      elim (sits.side) [
        | inl before ↦ (
          record { prefix = sits.prefix; side = inl (omega (arith, before, low)) },
          record { prefix = sits.prefix; side = inl (omega (arith, before, low, ordered)) },
        )
        | inr within ↦ elim (cases_lt run.1 (number q.network)) [
          | inl after ↦ (
            record { prefix = sits.prefix; side = inr (inr (omega (arith, after))) },
            record { prefix = sits.prefix; side = inr (omega (arith, after), within.1) },
          )
          | inr not ↦
              let key = family.is_address q.network first_fits in
              let from : run.0 ≤ number q.network =
              low_is run runs each rising (number q.network)
              (all (number q.network) within.0 first_fits
              (subst Q (sym (number_at family q.network key))
              (within.1 q.network key (omega arith, whole)))) in
              let inside : number q.last ≤ run.1 = elim (cases_lt run.1 (number q.last)) [
                | inl over ↦
                    let fits : run.1 + 1 < 2 ^ width = omega (arith, over, last_fits) in
                    let same = family.at_number (run.1 + 1) fits in
                    absurd (each.0.1.ends fits (within.1 (at (run.1 + 1))
                    (family.is_address (at (run.1 + 1)) (omega (arith, same, fits)))
                    (omega (arith, same, not), omega (arith, same, over))))
                | inr le ↦ le
              ] in (
                record { prefix = sits.prefix; side = inr (inl (from, omega (arith, inside))) },
                record { prefix = sits.prefix; side = inl (omega (arith, inside)) },
              )
        ]
      ]

  all_sorted : (border : ℕ) (run : ℕ × ℕ) (runs : List (ℕ × ℕ)) → Each family Q (run ∷ runs)
      → AreRising (run ∷ runs) → AreAllFrom border (run ∷ runs) → border ≤ run.0
      → (qs : List (Prefix A)) → AllByRecursion (Sits border) qs
      → AllByRecursion (λ q. Fits family run.0 (run.1 + 1) q × Sits (run.1 + 1) q) qs
  all_sorted border run runs each rising all low [] sit = tt
  all_sorted border run runs each rising all low (q ∷ qs) sit = (
    sorted border run runs each rising all low q sit.0,
    all_sorted border run runs each rising all low qs sit.1,
  )

  -- no list of prefixes that cover the runs is shorter
  runs_fewest : (runs : List (ℕ × ℕ)) (border : ℕ) → Each family Q runs → AreRising runs
      → AreAllFrom border runs → StartFrom border runs
      → (qs : List (Prefix A)) → AllByRecursion (Sits border) qs
      → ((a : A) → order.is_key a → border ≤ number a → Q a → SomeHasAddress number qs a)
      → length (Tiles family runs) ≤ length qs
  runs_fewest [] border each rising all low qs sit covers = omega arith
  runs_fewest (run ∷ runs) border each rising all low qs sit covers =
      let ordered = each.0.0 in
      let fits = each.0.1.fits in
      let left = fewest family (Sits (run.1 + 1)) (run.1 + 1) run.0
      (all_tiles at width run.0 (run.1 + 1)) (run_are family run (ordered, fits)) qs
      (all_sorted border run runs each rising all low qs sit)
      (λ a from to.
      let key = family.is_address a (omega (arith, to, fits)) in
      covers a key (omega (arith, from, low)) (subst Q (number_at family a key)
      (each.0.1.each (number a) (from, omega (arith, to))))) in
      let ih : length (Tiles family runs) ≤ length left.rest =
      runs_fewest runs (run.1 + 1) each.1 rising.1
      (λ n from small q. elim (all n (omega (arith, from, low, ordered)) small q) [
        | inl here ↦ let to = here.1 in absurd (omega (arith, to, from))
        | inr later ↦ later
      ])
      (later_start run runs rising) left.rest left.others
      (λ a key from q. left.still a from (covers a key (omega (arith, from, low, ordered)) q)) in
      let fewer = left.fewer in
      rw length-append (omega (arith, ih, fewer))

  all_sit : (qs : List (Prefix A)) → AllByRecursion (IsPrefix number width) qs
      → ((a : A) → order.is_key a → SomeHasAddress number qs a → Q a)
      → AllByRecursion (Sits 0) qs
  all_sit [] all inside = tt
  all_sit (q ∷ qs) all inside =
      grind (arith, all_sit qs all.1 (λ a key some. inside a key (inr some)))

  start_from_zero : (runs : List (ℕ × ℕ)) → StartFrom 0 runs
  start_from_zero [] = tt
  start_from_zero (run ∷ runs) = omega arith

  -- no shorter list of prefixes has just these addresses
  pub are_fewest : (runs : List (ℕ × ℕ)) → Runs family Q runs → (others : List (Prefix A))
      → AllByRecursion (IsPrefix number width) others
      → ((a : A) → order.is_key a → SomeHasAddress number others a ↔ Q a)
      → length (Tiles family runs) ≤ length others
  are_fewest runs are others all just =
      runs_fewest runs 0 are.each are.ascending (λ n from small q. are.all n small q)
      (start_from_zero runs) others (all_sit others all (λ a key some. (just a key).0 some))
      (λ a key from q. (just a key).1 q)
