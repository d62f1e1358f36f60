-- A list in which an item was divided.
use Rattle.range_edit.proofs.Common.{common_steps, ◌≡◌, ℕ, ◌+◌, ◌<◌, List, [], ◌∷◌, ◌++◌, length, take, drop, arith, set}

-- an item that is edited where it stands, and another put after it
pub parted_alone : {X : Type 0} (xs edited new : List X) (n : ℕ) (x y : X) → n < length xs
    → edited ≡ set xs n x → new ≡ take (n + 1) edited ++ y ∷ drop (n + 1) edited
    → new ≡ take n xs ++ (x ∷ []) ++ [] ++ (y ∷ []) ++ drop (n + 1) xs
parted_alone xs edited new n x y within is put = grind (arith, common_steps)
