-- Lists with one of which something holds.
use Rattle.std.proofs.Common.{◌≡◌, ◌↔◌, ◌⊎◌, List, [], ◌∷◌, ◌++◌, arith}
use Rattle.lexing_classes.specs.Leads.{AnyOf}

pub any-append : {X : Type 0} (P : X → Type 0) (xs ys : List X)
    → AnyOf P (xs ++ ys) ↔ (AnyOf P xs ⊎ AnyOf P ys)
any-append P [] ys = grind arith
any-append P (x ∷ xs) ys = grind (arith, any-append P xs ys)

pub any-push : {X : Type 0} (P : X → Type 0) (xs ys : List X) (y : X) → ys ≡ xs ++ y ∷ []
    → AnyOf P ys ↔ (AnyOf P xs ⊎ P y)
any-push P xs ys y pushed = grind (arith, any-append P xs (y ∷ []))
