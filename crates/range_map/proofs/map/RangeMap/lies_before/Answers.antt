use Rattle.range_map.proofs.Common.{◌≡◌, refl, List, ◌∷◌, [], Every, LiesBefore, shown_item}
use Rattle.range_bulk.proofs.AppendedLists.{ends_tell}
use Rattle.range_map.proofs.map.RangeMap.lies_before.Goals as goal

-- each of the ones stands so to each of no others
to_none : {X Y : Type 0} (R : X → Y → Type 0) (xs : List X) (ys : List Y) → ys ≡ []
    → Every (λ x. Every (λ y. R x y) ys) xs
to_none R [] ys e = tt
to_none R (x ∷ xs) ys e = (rw e tt, to_none R xs ys e)

pub returns : goal.returns
returns g c =
    let last = c.in-Some.ensures.last in
    let first = c.in-Some-first_range_value.ensures.first in
    let ends = c.ends_before.ensures in
    let all =
    ends_tell g.met.K.PartialEnum.lawful g.met.V.Eq.laws last.0 first.0
    (shown_item (c.in-Some.last, c.in-Some.field-0-1))
    (shown_item (c.in-Some-first_range_value.first, c.in-Some-first_range_value.field-0-1))
    (rw last.1 at c.in_form.ensures.stored) (rw first.1 at c.in_form-2.ensures.stored) in
    rw (last.1, first.1) (λ h. all.0 (ends.0 h), λ h. ends.1 (all.1 h))

pub returns-in_default-first_range_value : goal.returns-in_default-first_range_value
returns-in_default-first_range_value g c = (
  λ h. to_none (λ i j. LiesBefore g.K.MaybeBounded.order i.key j.key)
      _ _ c.in_default-first_range_value.ensures.first,
  λ h. refl,
)
