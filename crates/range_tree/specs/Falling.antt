-- A test that items of a list pass up to some place, and none after it.
use Rattle.std.specs.Prelude.{◌≡◌, Bool, false, List, [], ◌∷◌, count_by}

module _ {X : Type 0} where
  -- once the test is false it stays so
  unfoldable pub Falls : (X → Bool) → List X → Type 0
  Falls p [] = Unit {0}
  Falls p (x ∷ xs) = (p x ≡ false → count_by p xs ≡ 0) × Falls p xs
