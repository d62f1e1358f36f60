-- One character of several ranges, read.
use Rattle.std.proofs.Common.{◌≡◌, refl, ◌↔◌, inl, ℕ, true, false, IsTrue, List, [], ◌∷◌, arith}
use Rattle.std.specs.Char.{IsScalar}
use Rattle.std.specs.Str.{all_scalars}
use Rattle.std.proofs.lemmas.Bool.{and_parts}
use Rattle.regex_class.specs.Ranges.{in_ranges}
use Rattle.lexing_patterns.specs.Languages.{OneOf}
use Rattle.lexing_patterns.specs.Parts.{HasEdge, IsAmong, ReadsBy}

module _ (In : ℕ → ℕ → Type 0) (ranges : List (ℕ × ℕ)) (state : ℕ)
    (members : (c q : ℕ) → IsScalar c → In c q ↔ ((in_ranges ranges c ≡ true) × (q ≡ state))) where
  pub one_read : (w : List ℕ) → all_scalars w ≡ true
      → ReadsBy In (HasEdge []) (λ q. IsAmong q (state ∷ [])) (IsTrue false) w
      ↔ OneOf (in_ranges ranges) w
  one_read [] s = grind arith
  one_read (c ∷ []) s =
      let (scalar, none) = and_parts _ _ s in
      let is = λ (q : ℕ). members c q scalar in grind (arith, is state)
  one_read (c ∷ d ∷ w) s = grind arith
