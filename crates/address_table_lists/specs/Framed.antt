-- The lines of a family, and what stands around them.
use Rattle.std.specs.Prelude.{◌≡◌, List, ℕ, [], ◌∷◌, ◌++◌}
use Rattle.line_program.specs.Listing.{SpellsEach}
use Rattle.address_rows.specs.Forms.{family_closing, family_opening}
use Rattle.address_rows.specs.declared.forms.Form.{Form}
use Rattle.address_text.specs.declared.family.Family.{Family}

-- a line for each, with what stands around the lines of a family, where there are any
abbrev pub IsFramed : {X : Type 0} → Form → Family → (X → List ℕ → Type 0) → List X → List ℕ
    → Type 0
IsFramed form family IsLine [] text = text ≡ []
IsFramed form family IsLine (x ∷ rest) text = (lines : List ℕ)
    × SpellsEach IsLine (x ∷ rest) lines
    × (text ≡ family_opening form family ++ lines ++ family_closing form)
