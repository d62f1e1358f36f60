-- Texts of values.
use Rattle.std.specs.Prelude.{◌≢◌, ℕ, List, [], ◌∷◌}
use Rattle.std.specs.List.{AllByRecursion}

-- no text stands at two places
abbrev pub AreDifferent : List (List ℕ) → Type 0
AreDifferent [] = Unit {0}
AreDifferent (text ∷ texts) = AllByRecursion (λ other. text ≢ other) texts × AreDifferent texts
