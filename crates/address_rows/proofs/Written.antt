-- Texts that are written one after the other.
use Rattle.std.proofs.Common.{arith, ◌≡◌, ℕ, List, ◌++◌, append_assoc}
use Rattle.std.specs.Prelude.{Option, Result, OnOk}
use Rattle.std.specs.Io.KnownBytes.{Appends}

pub appends_then : (a b c : Option (List ℕ)) (x y : List ℕ) → Appends a b x → Appends b c y
    → Appends a c (x ++ y)
appends_then a b c x y p q = grind (arith, append_assoc)

-- what is appended last, where all goes well
pub ok_then : {X E : Type 0} (r : Result X E) (a b c : Option (List ℕ)) (x y : List ℕ)
    → Appends a b x → OnOk r (Appends b c y) → OnOk r (Appends a c (x ++ y))
ok_then r a b c x y p q = grind (arith, appends_then)
