-- Runs of numbers: as many as follow each other without a gap.
use Rattle.std.specs.Prelude.{◌≡◌, ℕ, ◌+◌, ◌≤◌, ◌<◌, ◌^◌, List}
use Rattle.std.specs.List.{AllByRecursion}
use Rattle.btree_range_map.specs.Intervals.{Any}
use Rattle.btree_range_map.specs.Neighbours.{EachNext}

-- the numbers from the first to the last are addresses
abbrev pub IsSpan : ℕ → ℕ × ℕ → Type 0
IsSpan width run = (run.0 ≤ run.1) × (run.1 < 2 ^ width)

-- a number is one from the first to the last
abbrev pub IsIn : ℕ → ℕ × ℕ → Type 0
IsIn n run = (run.0 ≤ n) × (n ≤ run.1)

module _ (P : ℕ → Type 0) (bound : ℕ) where
  -- of the numbers of which this is so, those from the first to the last are all, and neither the
  -- one before nor the one after is another; all are less than a bound
  pub record IsMaximalRun (run : ℕ × ℕ) : Type 0 where
    pub fits : run.1 < bound
    pub each : (n : ℕ) → IsIn n run → P n
    pub starts : (n : ℕ) → n + 1 ≡ run.0 → ¬ P n
    pub ends : run.1 + 1 < bound → ¬ P (run.1 + 1)

  -- a run that a number is in
  abbrev pub IsRunAround : ℕ → ℕ × ℕ → Type 0
  IsRunAround n run = IsIn n run × IsMaximalRun run

  -- all runs of these numbers, in ascending order
  pub record AreRuns (runs : List (ℕ × ℕ)) : Type 0 where
    pub each : AllByRecursion (λ run. (run.0 ≤ run.1) × IsMaximalRun run) runs
    pub all : (n : ℕ) → n < bound → P n → Any (IsIn n) runs
    pub ascending : EachNext (λ run next. run.1 < next.0) runs
