-- Where a range meets no stored one, no item is cut beside it; a list that is made keeps its form.
use Rattle.range_edit.proofs.Common.{arith, common_steps, ◌≡◌, Bool, List, Option, None, Result, OnOk, OnErr, Bound, KeyOrder, IsLawful, AnyRange, IsBoundOfKey, flipped_bound, Item, IsInserted, Border, seam_border, IsStored}
use Rattle.range_edit.specs.Borders.{IsSeamAt}

-- so it is the same where it would be cut
pub seam_alike : {K P : Type 0} (found : Option P) (b c : Bound K)
    → seam_border found None b ≡ seam_border found None c
seam_alike found b c = grind (arith, common_steps)

-- where nothing is cut, any bound just outside serves
pub seam_stands : {K P : Type 0} (order : KeyOrder K) (joined reaching : Option P) (bound : Bound K)
    {border : Border K P} → IsLawful order → IsBoundOfKey order bound
    → border ≡ seam_border joined reaching (flipped_bound bound)
    → IsSeamAt order joined reaching bound border
seam_stands order joined reaching bound lawful known at = grind (arith, common_steps)

module _ {K : Type 0} (order : KeyOrder K) {V : Type 0} (same : V → V → Bool) where
  -- what was inserted or refused is in stored form
  pub form_after : {A E : Type 0} (answer : Result A E) (items new : List (Item (AnyRange K) V))
      (r : AnyRange K) (v : V) → OnOk answer (IsInserted order same items new r v)
      → OnErr answer (new ≡ items) → IsStored order same items → IsStored order same new
  form_after answer items new r v done refused form = grind (arith, common_steps)
