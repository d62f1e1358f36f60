-- The prefixes of runs: they have just the addresses of these, in ascending order.
use Rattle.std.proofs.Common.{ℕ, ◌+◌, ◌≤◌, ◌<◌, ◌++◌, ◌↔◌, ◌⊎◌, List, [], ◌∷◌, inl, inr, arith}
use Rattle.std.specs.List.{AllByRecursion}
use Rattle.btree_range_map.specs.Intervals.{Any}
use Rattle.btree_range_map.specs.Neighbours.{BeforeFirst}
use Rattle.btree_range_map.specs.Order.{KeyOrder}
use Rattle.address_keys.specs.Families.{IsFamily}
use Rattle.address_prefixes.specs.Prefixes.{AreAscending, HasAddress, IsPrefix, SomeHasAddress, size}
use Rattle.address_prefixes.specs.Runs.{IsIn, IsSpan}
use Rattle.address_prefixes.specs.Tiles.{all_tiles, run_tiles}
use Rattle.address_prefixes.specs.declared.prefix.Prefix.{Prefix}
use Rattle.address_prefixes.proofs.Runs.{AreRising, AreSpans, Runs, are_spans, in_runs}
use Rattle.address_prefixes.proofs.Tiles.{AreWidest, all_tiles_are, of_some, some_of}
use Rattle.std.proofs.Common.{rules}

any_append : {X : Type 0} (P : X → Type 0) (xs ys : List X)
    → Any P (xs ++ ys) ↔ (Any P xs ⊎ Any P ys)
any_append P [] ys = (λ h. inr h, λ h. elim h [ inl none ↦ absurd none | inr some ↦ some ])
any_append P (x ∷ xs) ys = grind (arith, any_append P xs ys)

module _ {A : Type 0} {order : KeyOrder A} {number : A → ℕ} {at : ℕ → A} {width : ℕ}
    (family : IsFamily order number at width) where
  abbrev pub Tiles : List (ℕ × ℕ) → List (Prefix A)
  Tiles runs = run_tiles at width runs

  pub run_are : (run : ℕ × ℕ) → IsSpan width run
      → AreWidest family run.0 (run.1 + 1) (all_tiles at width run.0 (run.1 + 1))
  run_are run is = grind (arith, all_tiles_are)

  -- they have the addresses whose numbers are in the runs
  has_is : (runs : List (ℕ × ℕ)) → AreSpans width runs → (a : A)
      → SomeHasAddress number (Tiles runs) a ↔ Any (IsIn (number a)) runs
  has_is [] spans a = (λ h. h, λ h. h)
  has_is (run ∷ runs) spans a =
      let own : List (Prefix A) = all_tiles at width run.0 (run.1 + 1) in
      let widest = run_are run spans.0 in
      let split = any_append (HasAddress number a) own (Tiles runs) in
      let later = has_is runs spans.1 a in (
        λ some. elim (split.0 some) [
          | inl h ↦
              let lies = of_some family run.0 (run.1 + 1) own a widest h in
              inl (lies.0, omega (arith, lies.1))
          | inr h ↦ inr (later.0 h)
        ],
        λ h. split.1 (elim h [
          | inl is ↦
              inl (some_of family run.0 (run.1 + 1) own a widest is.0 (omega (arith, is.1)))
          | inr others ↦ inr (later.1 others)
        ]),
      )

  widest_are : (from past : ℕ) (ps more : List (Prefix A)) → AreWidest family from past ps
      → AllByRecursion (IsPrefix number width) more
      → AllByRecursion (IsPrefix number width) (ps ++ more)
  widest_are from past [] more e rest = rest
  widest_are from past (p ∷ ps) more e rest =
      (e.0.prefix, widest_are (from + size number width p) past ps more e.1 rest)

  all_prefixes : (runs : List (ℕ × ℕ)) → AreSpans width runs
      → AllByRecursion (IsPrefix number width) (Tiles runs)
  all_prefixes [] spans = tt
  all_prefixes (run ∷ runs) spans = search (rules, widest_are, run_are, all_prefixes runs spans.1)

  -- a run's first prefix starts where the run does
  first_from : (b from past : ℕ) (x : Prefix A) (ps more : List (Prefix A))
      → AreWidest family from past ps → from < past → b ≤ from
      → BeforeFirst (λ _ q. b ≤ number q.network) x (ps ++ more)
  first_from b from past x [] more e some le = absurd (omega (arith, e, some))
  first_from b from past x (p ∷ ps) more e some le = grind arith

  after_all : (x p : Prefix A) (from past : ℕ) (ps more : List (Prefix A))
      → AreWidest family from past ps → number p.last < from
      → BeforeFirst (λ _ q. past ≤ number q.network) x more
      → BeforeFirst (λ p q. number p.last < number q.network) p (ps ++ more)
  after_all x p from past [] [] e less after = tt
  after_all x p from past [] (q ∷ more) e less after = omega (arith, e, less, after)
  after_all x p from past (q ∷ ps) more e less after = grind arith

  ascending : (x : Prefix A) (from past : ℕ) (ps more : List (Prefix A))
      → AreWidest family from past ps → AreAscending number more
      → BeforeFirst (λ _ q. past ≤ number q.network) x more → AreAscending number (ps ++ more)
  ascending x from past [] more e rest after = rest
  ascending x from past (p ∷ ps) more e rest after =
      grind (arith, after_all, ascending x (from + size number width p) past ps more e.1 rest after)

  before_first : (x : Prefix A) (run : ℕ × ℕ) (runs : List (ℕ × ℕ)) → AreSpans width runs
      → AreRising (run ∷ runs)
      → BeforeFirst (λ _ q. run.1 + 1 ≤ number q.network) x (Tiles runs)
  before_first x run [] spans rising = tt
  before_first x run (next ∷ runs) spans rising =
      first_from (run.1 + 1) next.0 (next.1 + 1) x (all_tiles at width next.0 (next.1 + 1))
      (Tiles runs) (run_are next spans.0) (omega (arith, spans.0.0)) (omega (arith, rising.0))

  all_ascending : (runs : List (ℕ × ℕ)) → AreSpans width runs → AreRising runs
      → AreAscending number (Tiles runs)
  all_ascending [] spans rising = tt
  all_ascending (run ∷ runs) spans rising =
      let x : Prefix A = record { network = at 0; last = at 0; length = 0 } in
      ascending x run.0 (run.1 + 1) (all_tiles at width run.0 (run.1 + 1)) (Tiles runs)
      (run_are run spans.0) (all_ascending runs spans.1 rising.1)
      (before_first x run runs spans.1 rising)

  module _ (Q : A → Type 0) where
    pub have_just : (runs : List (ℕ × ℕ)) → Runs family Q runs → (a : A) → order.is_key a
        → SomeHasAddress number (Tiles runs) a ↔ Q a
    have_just runs are a key =
        let has = has_is runs (are_spans (λ n. Q (at n)) width runs are) a in
        let is = in_runs family Q runs are a key in (λ some. is.0 (has.0 some), λ q. has.1 (is.1 q))

    pub are_prefixes : (runs : List (ℕ × ℕ)) → Runs family Q runs
        → AllByRecursion (IsPrefix number width) (Tiles runs)
    are_prefixes runs are = all_prefixes runs (are_spans (λ n. Q (at n)) width runs are)

    pub are_ascending : (runs : List (ℕ × ℕ)) → Runs family Q runs
        → AreAscending number (Tiles runs)
    are_ascending runs are = all_ascending runs (are_spans (λ n. Q (at n)) width runs are) are.ascending
