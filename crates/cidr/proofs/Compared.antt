-- Two lists compared.
use Rattle.std.proofs.Common.{◌≡◌, ℕ, List, [], ◌∷◌, ◌++◌, Option, None, Some, IfSome, Result, OnOk, ap, ◌∙◌, append_assoc}
use Rattle.line_program.proofs.Listing.{on_ok_as}
use Rattle.line_program.specs.Listing.{Writes}
use Rattle.address_lists.specs.declared.addresses.Addresses.{Addresses}
use Rattle.cidr.specs.Commands.{IsList}
use Rattle.cidr.specs.Relations.{IsCompared}
use Rattle.cidr.specs.declared.serve.Reading.{Reading}
use Rattle.cidr.proofs.Commands.{IsRead}

module _ (reading : Reading) (numbers later : List ℕ) (before after : Option (List ℕ)) where
  -- what two files are read as, and what is printed of their addresses
  abbrev pub AreCompared : Option (List ℕ) → Option (List ℕ) → Type 0
  AreCompared one other = IfSome one (λ bytes. IfSome other (λ more.
      (list : Addresses × ℕ) × (other_list : Addresses × ℕ) × IsList reading bytes list
      × IsList reading more other_list × (later ≡ numbers ++ list.1 ∷ other_list.1 ∷ [])
      × Writes before after (IsCompared list.0 other_list.0)))

  compared : (between : List ℕ) (one other : Option (List ℕ)) (first second : Addresses)
      → IsRead reading one numbers between first → IsRead reading other between later second
      → Writes before after (IsCompared first second) → AreCompared one other
  compared between None other first second read more printed = tt
  compared between (Some bytes) None first second read more printed = tt
  compared between (Some bytes) (Some others) first second (left, said, counted)
      (more_left, more_said, more_counted) printed = (
        (first, left),
        (second, more_left),
        said,
        more_said,
        more_counted ∙ ap (λ all. all ++ more_left ∷ []) counted
            ∙ append_assoc numbers (left ∷ []) (more_left ∷ []),
        printed,
      )

  pub both_compared : {X E : Type 0} (between : List ℕ) (one other : Option (List ℕ))
      (first second : Addresses) (result : Result X E)
      → IsRead reading one numbers between first → IsRead reading other between later second
      → OnOk result (Writes before after (IsCompared first second))
      → OnOk result (AreCompared one other)
  both_compared between one other first second result read more =
      on_ok_as result _ _ (compared between one other first second read more)
