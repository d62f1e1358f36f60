-- Lines of numbers at equal distances.
use Rattle.std.specs.Prelude.{ℕ, zero, suc, ◌+◌, List, [], ◌++◌}

-- the lines of so many numbers, each so much greater than the one before, from a number on
abbrev pub series : (ℕ → List ℕ) → ℕ → ℕ → ℕ → List ℕ
series line step zero n = []
series line step (suc count) n = line n ++ series line step count (n + step)
