-- Which addresses are in runs.
use Rattle.std.proofs.Common.{◌≡◌, ℕ, ◌+◌, ◌^◌, ◌≤◌, ◌<◌, ◌↔◌, List, [], ◌∷◌, inl, inr, sym, ◌∙◌, arith}
use Rattle.std.specs.Cmp.{nat_cmp_is}
use Rattle.std.specs.List.{AllByRecursion}
use Rattle.std.specs.declared.cmp.Ordering.TheVariants.{Equal}
use Rattle.btree_range_map.specs.Intervals.{Any}
use Rattle.btree_range_map.specs.Neighbours.{EachNext}
use Rattle.btree_range_map.specs.Order.{KeyOrder}
use Rattle.address_keys.specs.Families.{IsFamily}
use Rattle.address_prefixes.specs.Runs.{AreRuns, IsIn, IsMaximalRun, IsSpan}

abbrev pub AreRising : List (ℕ × ℕ) → Type 0
AreRising runs = EachNext (λ run next. run.1 < next.0) runs

-- the first of the runs starts there or later
abbrev pub StartFrom : ℕ → List (ℕ × ℕ) → Type 0
StartFrom border [] = Unit {0}
StartFrom border (run ∷ runs) = border ≤ run.0

pub later_start : (run : ℕ × ℕ) (runs : List (ℕ × ℕ)) → AreRising (run ∷ runs)
    → StartFrom (run.1 + 1) runs
later_start run [] rising = tt
later_start run (next ∷ runs) rising = let h = rising.0 in omega (arith, h)

abbrev pub AreSpans : ℕ → List (ℕ × ℕ) → Type 0
AreSpans width runs = AllByRecursion (IsSpan width) runs

each_span : (P : ℕ → Type 0) (width : ℕ) (runs : List (ℕ × ℕ))
    → AllByRecursion (λ run. (run.0 ≤ run.1) × IsMaximalRun P (2 ^ width) run) runs
    → AreSpans width runs
each_span P width [] each = tt
each_span P width (run ∷ runs) each = grind (arith, each_span P width runs each.1)

pub are_spans : (P : ℕ → Type 0) (width : ℕ) (runs : List (ℕ × ℕ)) → AreRuns P (2 ^ width) runs
    → AreSpans width runs
are_spans P width runs are = each_span P width runs are.each

module _ {A : Type 0} {order : KeyOrder A} {number : A → ℕ} {at : ℕ → A} {width : ℕ}
    (family : IsFamily order number at width) where
  pub same_address : (a b : A) → number a ≡ number b → a ≡ b
  same_address a b e =
      family.counted.same a b
      (family.by_number a b ∙ sym (nat_cmp_is (number a) (number b) Equal e))

  pub number_at : (a : A) → order.is_key a → at (number a) ≡ a
  number_at a key = grind (arith, same_address)

  -- runs of addresses of which something is so
  module _ (Q : A → Type 0) where
    abbrev pub Each : List (ℕ × ℕ) → Type 0
    Each runs =
        AllByRecursion (λ run. (run.0 ≤ run.1) × IsMaximalRun (λ n. Q (at n)) (2 ^ width) run) runs

    abbrev pub Runs : List (ℕ × ℕ) → Type 0
    Runs runs = AreRuns (λ n. Q (at n)) (2 ^ width) runs

    of_runs : (n : ℕ) (runs : List (ℕ × ℕ)) → Each runs → Any (IsIn n) runs → Q (at n)
    of_runs n [] each none = absurd none
    of_runs n (run ∷ runs) each (inl here) = each.0.1.each n here
    of_runs n (run ∷ runs) each (inr later) = of_runs n runs each.1 later

    pub in_runs : (runs : List (ℕ × ℕ)) → Runs runs → (a : A) → order.is_key a
        → Any (IsIn (number a)) runs ↔ Q a
    in_runs runs are a key = grind (arith, number_at, of_runs)
