-- How often a number stands in a list.
use Rattle.std.specs.Prelude.{ℕ, ◌==◌, List, count_by}

-- how often k stands in the list
unfoldable pub occurrences : ℕ → List ℕ → ℕ
occurrences k xs = count_by (λ x. x == k) xs
