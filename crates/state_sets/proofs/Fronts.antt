-- Beginnings of a list of characters that are accepted, by the bytes that they have.
use Rattle.std.proofs.Common.{◌≡◌, refl, ap, ◌∙◌, ◌⊎◌, ℕ, ◌≤◌, ◌-◌, suc, true, List, [], ◌∷◌, ◌++◌, length, take, drop, arith}
use Rattle.std.specs.Str.{chars, IsUtf8}
use Rattle.std.proofs.Math.Seq.{take-append_seam, take-append-add}
use Rattle.std.proofs.Math.Utf8.{scalars, encodes}
use Rattle.std.proofs.lemmas.Grind.{common_steps}
use Rattle.std.proofs.lemmas.List.{take-append-le, take-append-drop, length-take-le, take_all}
use Rattle.std.proofs.lemmas.Str.{encodes-append, chars-append, chars-encodes, encodes-chars, scalars-chars, IsUtf8-take, IsCharBoundary-at_seam}
use Rattle.state_sets.specs.Beginnings.{AcceptsFirst}
use Rattle.state_sets.proofs.Reading.{bytes_of, bytes_of-append}

pub scalars_in_parts : (xs ys : List ℕ) → scalars (xs ++ ys) ≡ true
    → (scalars xs ≡ true) × (scalars ys ≡ true)
scalars_in_parts [] ys h = (refl, h)
scalars_in_parts (x ∷ xs) ys h = grind (arith, scalars_in_parts xs ys)

module _ (Accepted : List ℕ → Type 0) where
  -- some first characters are accepted, and have n bytes
  abbrev pub IsAcceptedFront : List ℕ → ℕ → Type 0
  IsAcceptedFront cs n =
      (k : ℕ) × (k ≤ length cs) × (bytes_of (take k cs) ≡ n) × Accepted (take k cs)

  pub front_fits : (cs : List ℕ) (n : ℕ) → IsAcceptedFront cs n → n ≤ bytes_of cs
  front_fits cs n h =
      grind (arith, take-append-drop h.0 cs, bytes_of-append (take h.0 cs) (drop h.0 cs))

  pub whole_front : (cs : List ℕ) → Accepted cs → IsAcceptedFront cs (bytes_of cs)
  whole_front cs h = grind (arith, take_all (length cs) cs)

  -- with characters more: the fronts from before, and those that go on
  pub front_stays : (cs more : List ℕ) (n : ℕ) → IsAcceptedFront cs n
      → IsAcceptedFront (cs ++ more) n
  front_stays cs more n h = grind (arith, common_steps, take-append-le h.0 cs more)

  pub front_in_parts : (cs more : List ℕ) (c n : ℕ) → IsAcceptedFront (cs ++ c ∷ more) n
      → IsAcceptedFront cs n ⊎ ((k : ℕ) × Accepted (cs ++ c ∷ take k more))
  front_in_parts cs more c n h =
      let further = take-append-add cs (c ∷ more) (suc (h.0 - length cs - 1)) in
      grind (arith, take-append-le h.0 cs (c ∷ more))

  module _ (text : List ℕ) (utf8 : IsUtf8 text) where
    pub front_of_bytes : (n : ℕ) → AcceptsFirst Accepted text n → IsAcceptedFront (chars text) n
    front_of_bytes n (cut, accepted) =
        let front = chars (take n text) in
        let parts = chars-append (take n text) (drop n text) (IsUtf8-take text n utf8 cut) in
        let coded = encodes-chars (take n text) (IsUtf8-take text n utf8 cut) in
        let same = take-append_seam front (chars (drop n text)) in
        let inside = length-take-le n text cut.0 in grind (arith, common_steps)

    pub bytes_of_chars : (n : ℕ) → IsAcceptedFront (chars text) n → AcceptsFirst Accepted text n
    bytes_of_chars n (k, within, bytes, accepted) =
        let front = take k (chars text) in
        let rest = drop k (chars text) in
        let parts = take-append-drop k (chars text) in
        let coded : text ≡ encodes front ++ encodes rest =
        grind (arith, encodes-chars text utf8, encodes-append front rest) in
        let scalar = scalars_in_parts front rest (ap scalars parts ∙ scalars-chars text utf8) in
        let cut =
        IsCharBoundary-at_seam text (encodes front) (encodes rest) coded
        (rest, (scalar.1, refl)) in
        let taken = take-append_seam (encodes front) (encodes rest) in
        grind (arith, chars-encodes front scalar.0)
