use Rattle.std.proofs.Common.{List, ap, inr, map, rules, subst}
use Rattle.std.specs.List.{AllByRecursion}
use Rattle.serde_json.specs.View.{view}
use Rattle.serde_json.specs.declared.value.Value.{Value}
use Rattle.address_lists.specs.Json.{IsFirstReversed, IsInOrder}
use Rattle.address_lists.specs.declared.json.JsonFault.TheVariants.{Reversed}
use Rattle.address_lists.specs.declared.read.ListError.TheVariants.{Json}
use Rattle.address_lists.proofs.Ordered.{all_elements, elements_are, found_none, found_some}
use Rattle.address_lists.proofs.json.check_order.Goals as goal

pub returns-in-Ok-None-clause-fine : goal.returns-in-Ok-None-clause-fine
returns-in-Ok-None-clause-fine g c =
    let InOrder = IsInOrder g.A.Json.is_read g.A.Address.number g.A.Json.reads in
    all_elements InOrder (view c.args.value.now) c.in-Some.elements.now.items c.in-Some.ensures
    (subst (λ (values : List Value). AllByRecursion InOrder (map view values))
    c.as_slice.ensures.value (found_none _ _ c.in-Ok-None.field-0 (search rules) c.in-Ok-None.ensures))

pub returns-in-Ok-Some-clause-fault : goal.returns-in-Ok-Some-clause-fault
returns-in-Ok-Some-clause-fault g c =
    let values = c.in-Some.elements.now.items in
    let place = c.in-Ok-Some.place in
    inr (
      place,
      ap (λ family. Json (Reversed family place)) c.family.ensures,
      (
        map view values,
        elements_are (view c.args.value.now) values c.in-Some.ensures,
        subst
            (λ (vs : List Value). IsFirstReversed g.A.Json.is_read g.A.Address.number g.A.Json.reads
            (map view vs) place)
            c.as_slice.ensures.value
            (found_some _ _ c.in-Ok-Some.field-0 place (search rules) c.in-Ok-Some.ensures),
      ),
    )
