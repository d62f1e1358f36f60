-- The lines of a family, with what stands around them.
use Rattle.std.proofs.Common.{◌≡◌, ◌≢◌, ℕ, List, [], ◌∷◌, ◌++◌, Option, refl}
use Rattle.std.specs.Io.KnownBytes.{Appends}
use Rattle.line_program.specs.Listing.{SpellsEach, Writes}
use Rattle.line_program.proofs.Listing.{appends_none, appends_then}
use Rattle.address_rows.specs.Forms.{family_closing, family_opening}
use Rattle.address_rows.specs.declared.forms.Form.{Form}
use Rattle.address_text.specs.declared.family.Family.{Family}
use Rattle.address_table_lists.specs.Framed.{IsFramed}

module _ {X : Type 0} (form : Form) (family : Family) (IsLine : X → List ℕ → Type 0) where
  -- where there are none, nothing is written
  pub framed_none : (items : List X) (known : Option (List ℕ)) → items ≡ []
      → Writes known known (IsFramed form family IsLine items)
  framed_none [] known none = ([], refl, appends_none known)
  framed_none (x ∷ rest) known none = absurd (cc)

  pub framed_all : (items : List X) (a b c d : Option (List ℕ)) → items ≢ []
      → Appends a b (family_opening form family) → Writes b c (SpellsEach IsLine items)
      → Appends c d (family_closing form) → Writes a d (IsFramed form family IsLine items)
  framed_all [] a b c d some opened lines closed = absurd (some refl)
  framed_all (x ∷ rest) a b c d some opened (lines, each, more) closed = (
    family_opening form family ++ lines ++ family_closing form,
    (lines, each, refl),
    appends_then a c d (family_opening form family ++ lines) (family_closing form)
        (appends_then a b c (family_opening form family) lines opened more) closed,
  )
