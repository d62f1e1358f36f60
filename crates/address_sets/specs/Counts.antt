-- How many numbers lie in runs.
use Rattle.std.specs.Prelude.{ℕ, ◌+◌, ◌-◌, List, [], ◌∷◌}

-- those of all runs together
abbrev pub total : List (ℕ × ℕ) → ℕ
total [] = 0
total (run ∷ runs) = run.1 + 1 - run.0 + total runs
