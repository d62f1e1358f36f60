-- Runs of numbers in ascending order.
use Rattle.std.specs.Prelude.{◌≡◌, ℕ, ◌+◌, ◌≤◌, ◌<◌, ◌^◌, Bool, ◌&&◌, nat_le, List, [], ◌∷◌}
use Rattle.std.specs.List.{list_any}

-- the number lies in one of the runs
abbrev pub has : List (ℕ × ℕ) → ℕ → Bool
has runs n = list_any (λ r. nat_le r.0 n && nat_le n r.1) runs

-- each run starts after the one before it has ended, the first at a number or after it
abbrev pub AreAscending : ℕ → List (ℕ × ℕ) → Type 0
AreAscending from [] = Unit {0}
AreAscending from (r ∷ runs) = (from ≤ r.0) × (r.0 ≤ r.1) × AreAscending (r.1 + 1) runs

-- likewise, but the first of them may start before the number, and ends at it or after it
abbrev pub AreLeft : ℕ → List (ℕ × ℕ) → Type 0
AreLeft from [] = Unit {0}
AreLeft from (r ∷ runs) = (from ≤ r.1) × (r.0 ≤ r.1) × AreAscending (r.1 + 1) runs

-- all numbers of a block are in the runs, or none is
abbrev pub IsUniform : List (ℕ × ℕ) → ℕ → ℕ → Bool → Type 0
IsUniform runs free from b = (n : ℕ) → (from ≤ n) × (n < from + 2 ^ free) → has runs n ≡ b
