-- As many addresses are in runs as there are numbers in them.
use Rattle.std.proofs.Common.{◌≡◌, ℕ, zero, suc, ◌+◌, ◌-◌, ◌^◌, ◌≤◌, ◌<◌, ◌++◌, ◌↔◌, ◌⊎◌, List, [], ◌∷◌, length, Option, None, Some, MatchOption, inl, inr, refl, sym, subst, arith, length-append}
use Rattle.std.specs.Cmp.{ranked, nat_cmp_is}
use Rattle.std.specs.List.{AllByRecursion}
use Rattle.std.proofs.lemmas.Bool.{cases_lt}
use Rattle.std.proofs.Math.Pow.{pow_mono}
use Rattle.btree_range_map.specs.Intervals.{Any}
use Rattle.btree_range_map.specs.KeyNumbers.{number_fits}
use Rattle.btree_range_map.specs.Numbers.{AreRising as AreRisingKeys, IsNumberOfKeys, Lists}
use Rattle.btree_range_map.specs.Order.{Below, KeyOrder}
use Rattle.address_keys.specs.Families.{IsFamily}
use Rattle.address_prefixes.specs.Runs.{IsIn}
use Rattle.address_prefixes.proofs.Runs.{AreRising, AreSpans, Runs, StartFrom, are_spans, in_runs, later_start}
use Rattle.address_sets.specs.Counts.{total}
use Rattle.address_sets.proofs.Sets.{number_below}

all_append : {X : Type 0} (P : X → Type 0) (xs ys : List X) → AllByRecursion P xs
    → AllByRecursion P ys → AllByRecursion P (xs ++ ys)
all_append P [] ys none all = all
all_append P (x ∷ xs) ys some all = (some.0, all_append P xs ys some.1 all)

module _ {A : Type 0} {order : KeyOrder A} {number : A → ℕ} {at : ℕ → A} {width : ℕ}
    (family : IsFamily order number at width) where
  -- so many addresses from a number on
  abbrev addresses_from : ℕ → ℕ → List A
  addresses_from zero from = []
  addresses_from (suc n) from = at from ∷ addresses_from n (from + 1)

  -- addresses with this number or a greater one
  abbrev AreFrom : ℕ → List A → Type 0
  AreFrom b keys = AllByRecursion (λ a. b ≤ number a) keys

  many : (n from : ℕ) → length (addresses_from n from) ≡ n
  many zero from = refl
  many (suc n) from = let rest = many n (from + 1) in omega (arith, rest)

  in_type : (n from : ℕ) → from + n ≤ 2 ^ width
      → AllByRecursion order.is_key (addresses_from n from)
  in_type zero from fits = tt
  in_type (suc n) from fits = grind (arith, in_type n (from + 1) (omega (arith, fits)))

  from_less : (b c : ℕ) (keys : List A) → c ≤ b → AreFrom b keys → AreFrom c keys
  from_less b c [] le all = tt
  from_less b c (a ∷ keys) le all = grind (arith, from_less b c keys le all.1)

  from_append : (n from b : ℕ) (more : List A) → b ≤ from → from + n ≤ 2 ^ width
      → AreFrom (from + n) more → AreFrom b (addresses_from n from ++ more)
  from_append zero from b more low fits later = grind (arith, from_less)
  from_append (suc n) from b more low fits later =
      grind (arith, from_less, from_append n (from + 1) b more (omega (arith, low)) (omega (arith, fits)) (from_less (from + suc n) (from + 1 + n) more (omega arith) later))

  all_above : (a : A) (b : ℕ) (keys : List A) → number a < b → AreFrom b keys
      → AllByRecursion (Below order a) keys
  all_above a b [] less all = tt
  all_above a b (k ∷ keys) less all = grind (arith, number_below, all_above a b keys less all.1)

  rising_append : (n from : ℕ) (more : List A) → from + n ≤ 2 ^ width → AreFrom (from + n) more
      → AreRisingKeys order more → AreRisingKeys order (addresses_from n from ++ more)
  rising_append zero from more fits later rest = rest
  rising_append (suc n) from more fits later rest =
      let e = family.at_number from (omega (arith, fits)) in
      let past : AreFrom (from + 1 + n) more =
      from_less (from + suc n) (from + 1 + n) more (omega arith) later in (
        all_above (at from) (from + 1) (addresses_from n (from + 1) ++ more) (omega (arith, e))
            (from_append n (from + 1) (from + 1) more (omega arith) (omega (arith, fits)) past),
        rising_append n (from + 1) more (omega (arith, fits)) past rest,
      )

  listed : (n from : ℕ) (k : A) → from + n ≤ 2 ^ width → Lists order (addresses_from n from) k
      ↔ ((from ≤ number k) × (number k < from + n))
  listed zero from k fits = (λ none. absurd none, λ h. absurd (omega (arith, h.0, h.1)))
  listed (suc n) from k fits =
      grind (arith, ranked, cases_lt, nat_cmp_is, listed n (from + 1) k (omega (arith, fits)))

  lists_append : (xs ys : List A) (k : A)
      → Lists order (xs ++ ys) k ↔ (Lists order xs k ⊎ Lists order ys k)
  lists_append [] ys k = (λ h. inr h, λ h. elim h [ inl none ↦ absurd none | inr some ↦ some ])
  lists_append (x ∷ xs) ys k = grind (arith, lists_append xs ys k)

  -- those of all runs
  abbrev held_addresses : List (ℕ × ℕ) → List A
  held_addresses [] = []
  held_addresses (run ∷ runs) = addresses_from (run.1 + 1 - run.0) run.0 ++ held_addresses runs

  all_many : (runs : List (ℕ × ℕ)) → length (held_addresses runs) ≡ total runs
  all_many [] = refl
  all_many (run ∷ runs) = grind (arith, many, length-append, all_many runs)

  all_in_type : (runs : List (ℕ × ℕ)) → AreSpans width runs
      → AllByRecursion order.is_key (held_addresses runs)
  all_in_type [] spans = tt
  all_in_type (run ∷ runs) spans = grind (arith, all_append, in_type, all_in_type runs spans.1)

  all_from : (b : ℕ) (runs : List (ℕ × ℕ)) → AreSpans width runs → AreRising runs
      → StartFrom b runs → AreFrom b (held_addresses runs)
  all_from b [] spans rising low = tt
  all_from b (run ∷ runs) spans rising low =
      grind (arith, from_append, from_less, later_start, all_from (run.1 + 1) runs spans.1 rising.1 (later_start run runs rising))

  all_rising : (runs : List (ℕ × ℕ)) → AreSpans width runs → AreRising runs
      → AreRisingKeys order (held_addresses runs)
  all_rising [] spans rising = tt
  all_rising (run ∷ runs) spans rising =
      let ordered = spans.0.0 in
      let fits = spans.0.1 in
      let n : ℕ = run.1 + 1 - run.0 in
      rising_append n run.0 (held_addresses runs) (omega (arith, ordered, fits))
      (from_less (run.1 + 1) (run.0 + n) (held_addresses runs) (omega (arith, ordered))
      (all_from (run.1 + 1) runs spans.1 rising.1 (later_start run runs rising)))
      (all_rising runs spans.1 rising.1)

  all_listed : (runs : List (ℕ × ℕ)) → AreSpans width runs → (k : A)
      → Any (IsIn (number k)) runs ↔ Lists order (held_addresses runs) k
  all_listed [] spans k = (λ h. h, λ h. h)
  all_listed (run ∷ runs) spans k = grind (arith, lists_append, listed, all_listed runs spans.1 k)

  module _ (Q : A → Type 0) (runs : List (ℕ × ℕ)) (are : Runs family Q runs) where
    number_of : IsNumberOfKeys order Q (total runs)
    number_of =
        let spans = are_spans (λ n. Q (at n)) width runs are in
        record {
          keys = held_addresses runs;
          in_type = all_in_type runs spans;
          rising = all_rising runs spans are.ascending;
          listed =
              λ k key.
              let is = in_runs family Q runs are k key in
              let lists = all_listed runs spans k in
              (λ q. lists.0 (is.1 q), λ l. is.0 (lists.1 l));
          many = all_many runs;
        }

    -- the sum of the runs is how many addresses there are, if it is below 2^128; else it is that
    pub count_is : (count : Option ℕ)
        → MatchOption count (2 ^ 128 ≤ total runs) (λ n. n ≡ total runs)
        → MatchOption count (IsNumberOfKeys order Q (2 ^ 128)) (λ n. IsNumberOfKeys order Q n)
    count_is None full =
        let most = number_fits family.counted Q (total runs) number_of in
        let fits : 2 ^ width ≤ 2 ^ 128 = pow_mono family.small in
        let same : total runs ≡ 2 ^ 128 = omega (arith, full, most, fits) in
        subst (λ n. IsNumberOfKeys order Q n) same number_of
    count_is (Some n) same = subst (λ n. IsNumberOfKeys order Q n) (sym same) number_of
