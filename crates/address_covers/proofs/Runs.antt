-- The runs of a set, as `least_covers` takes them.
use Rattle.std.proofs.Common.{◌≡◌, ℕ, ◌+◌, ◌≤◌, ◌<◌, Bool, true, false, ◌&&◌, ◌||◌, nat_le, List, [], ◌∷◌, inl, inr, refl, arith}
use Rattle.std.specs.List.{AllByRecursion}
use Rattle.std.proofs.lemmas.Bool.Decides.{nat_tests}
use Rattle.btree_range_map.specs.Intervals.{Any}
use Rattle.btree_range_map.specs.Neighbours.{EachNext}
use Rattle.address_prefixes.specs.Runs.{AreRuns, IsIn, IsMaximalRun}
use Rattle.least_covers.specs.Runs.{AreAscending, has}

in_first : (first last n : ℕ) → (first ≤ n) × (n ≤ last) → (nat_le first n && nat_le n last) ≡ true
in_first first last n h = grind (arith, nat_tests)

is_first : (first last n : ℕ) → (nat_le first n && nat_le n last) ≡ true → (first ≤ n) × (n ≤ last)
is_first first last n h = (grind (arith, nat_tests), grind (arith, nat_tests))

or_right : (a b : Bool) → b ≡ true → (a || b) ≡ true
or_right true b h = refl
or_right false b h = h

-- a number lies in one of the runs just where the test says so
pub in_has : (n : ℕ) (runs : List (ℕ × ℕ)) → Any (IsIn n) runs → has runs n ≡ true
in_has n [] none = absurd none
in_has n (run ∷ runs) (inl here) = let t = in_first run.0 run.1 n here in rw t refl
in_has n (run ∷ runs) (inr later) =
    or_right (nat_le run.0 n && nat_le n run.1) (has runs n) (in_has n runs later)

pub has_in : (n : ℕ) (runs : List (ℕ × ℕ)) → has runs n ≡ true → Any (IsIn n) runs
has_in n [] h = absurd (cc)
has_in n (run ∷ runs) h =
    let P : Bool → Type 0 = λ t. (nat_le run.0 n && nat_le n run.1) ≡ t → (t || has runs n) ≡ true → Any (IsIn n) (run ∷ runs) in
    let go : P (nat_le run.0 n && nat_le n run.1) = elim (nat_le run.0 n && nat_le n run.1) as P [
      | true ↦ λ is _. inl (is_first run.0 run.1 n is)
      | false ↦ λ is later. inr (has_in n runs later)
    ] in go refl h

module _ (P : ℕ → Type 0) (bound : ℕ) where
  abbrev Each : List (ℕ × ℕ) → Type 0
  Each runs = AllByRecursion (λ run. (run.0 ≤ run.1) × IsMaximalRun P bound run) runs

  ascends : (from : ℕ) (run : ℕ × ℕ) (runs : List (ℕ × ℕ)) → from ≤ run.0 → Each (run ∷ runs)
      → EachNext (λ r next. r.1 < next.0) (run ∷ runs) → AreAscending from (run ∷ runs)
  ascends from run [] low each next = (low, each.0.0, tt)
  ascends from run (other ∷ runs) low each next =
      let after = next.0 in
      (low, each.0.0, ascends (run.1 + 1) other runs (omega (arith, after)) each.1 next.1)

  pub are_ascending : (runs : List (ℕ × ℕ)) → AreRuns P bound runs → AreAscending 0 runs
  are_ascending [] are = tt
  are_ascending (run ∷ runs) are = ascends 0 run runs (omega arith) are.each are.ascending
