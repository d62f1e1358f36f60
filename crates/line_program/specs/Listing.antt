-- Texts of a line for each element of a list, and what is written of them.
use Rattle.std.specs.Prelude.{◌≡◌, ℕ, Option, List, [], ◌∷◌, ◌++◌}
use Rattle.std.specs.Io.KnownBytes.{Appends}

-- known bytes grow by a text that fits
abbrev pub Writes : Option (List ℕ) → Option (List ℕ) → (List ℕ → Type 0) → Type 0
Writes before after Fits = (text : List ℕ) × Fits text × Appends before after text

-- a line for each, in order
abbrev pub SpellsEach : {X : Type 0} → (X → List ℕ → Type 0) → List X → List ℕ → Type 0
SpellsEach SpellsOne [] text = text ≡ []
SpellsEach SpellsOne (x ∷ rest) text =
    (line : List ℕ) × (lines : List ℕ) × SpellsOne x line × SpellsEach SpellsOne rest lines
    × (text ≡ line ++ lines)

-- a line for each, or another one where there is none
abbrev pub SpellsLines : {X : Type 0} → (X → List ℕ → Type 0) → List ℕ → List X → List ℕ → Type 0
SpellsLines SpellsOne none [] text = text ≡ none
SpellsLines SpellsOne none (x ∷ rest) text = SpellsEach SpellsOne (x ∷ rest) text
