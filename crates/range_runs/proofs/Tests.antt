-- What follows from the answers of tests and calls, and what contradicts them.
use Rattle.range_runs.proofs.Common.{◌≡◌, Bool, true, false, Some}

-- a test does not fail and hold
pub not_both : {b : Bool} → b ≡ false → b ≡ true → ⊥
not_both fails holds = cc

pub same_some : {A : Type 0} {a b : A} → Some a ≡ Some b → a ≡ b
same_some e = cc
