-- What is told of each element of a list.
use Rattle.std.proofs.Common.{◌≡◌, ℕ, ◌+◌, ◌<◌, ◌↔◌, Bool, true, false, List, [], ◌∷◌, length, drop, get_or, refl, arith}
use Rattle.std.specs.Prelude.{◌&&◌, IsTrue}
use Rattle.std.specs.List.{AllByRecursion}
use Rattle.std.proofs.Math.Seq.{drop-cons}
use Rattle.std.proofs.lemmas.Bool.{false≢true}

pub item_first : {X : Type 0} (xs : List X) (i : ℕ) (x : X) → i < length xs
    → drop i xs ≡ get_or xs i x ∷ drop (i + 1) xs
item_first xs i x within = grind (arith, drop-cons)

module _ {X : Type 0} (P : X → Type 0) where
  -- all are so just where those before the ones that are left are, as is told, and these are
  abbrev pub AreTold : List X → Bool → List X → Type 0
  AreTold all told left = AllByRecursion P all ↔ (IsTrue told × AllByRecursion P left)

  pub told_none : (all : List X) → AreTold all true all
  told_none all = (λ each. (refl, each), λ both. both.1)

  pub told_more : (all left : List X) (x : X) (told has : Bool) → AreTold all told (x ∷ left)
      → (IsTrue has ↔ P x) → AreTold all (told && has) left
  told_more all left x true true before is = grind arith
  told_more all left x true false before is = grind (arith, false≢true)
  told_more all left x false has before is = grind (arith, false≢true)

  pub told_all : (all : List X) (told : Bool) → AreTold all told []
      → IsTrue told ↔ AllByRecursion P all
  told_all all told before = (λ yes. before.1 (yes, tt), λ each. (before.0 each).0)
