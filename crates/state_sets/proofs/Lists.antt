-- What stands at an index of a list, and of one with an item more at its end.
use Rattle.std.proofs.Common.{◌≡◌, ◌↔◌, ◌⊎◌, ℕ, ◌<◌, List, [], ◌∷◌, ◌++◌, length, Some, arith}
use Rattle.std.specs.List.{slice_get}
use Rattle.std.proofs.lemmas.Grind.{common_steps}
use Rattle.std.proofs.lemmas.Option.{slice_get_cases}
use Rattle.state_sets.specs.Listed.{KeepsAll}

pub some_at : {X : Type 0} (xs : List X) (i : ℕ) → i < length xs
    → (x : X) × (slice_get xs i ≡ Some x)
some_at xs i within = grind (arith, slice_get_cases xs i)

pub slice_get-push : {X : Type 0} (xs : List X) (y : X) (i : ℕ) (z : X)
    → (slice_get (xs ++ y ∷ []) i ≡ Some z)
    ↔ ((slice_get xs i ≡ Some z) ⊎ ((i ≡ length xs) × (y ≡ z)))
slice_get-push xs y i z =
    grind (arith, common_steps, slice_get_cases xs i, slice_get_cases (xs ++ y ∷ []) i)

pub keeps_pushed : {X : Type 0} (xs ys : List X) (y : X) → ys ≡ xs ++ y ∷ [] → KeepsAll xs ys
keeps_pushed xs ys y pushed i x at = grind (arith, slice_get-push xs y i x)
