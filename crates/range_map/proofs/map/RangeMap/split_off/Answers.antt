use Rattle.std.proofs.Common.{◌∙◌}
use Rattle.range_map.proofs.StoredLists.{stored_canonical}
use Rattle.range_map.proofs.map.RangeMap.split_off.Goals as goal

pub returns-in-Ok-clause-canonical : goal.returns-in-Ok-clause-canonical
returns-in-Ok-clause-canonical g c =
    stored_canonical g.met.K.PartialEnum.lawful g.met.V.Eq.laws _ c.in-Ok.ensures.divided.front_form

pub returns-in-Ok-clause-rest_canonical : goal.returns-in-Ok-clause-rest_canonical
returns-in-Ok-clause-rest_canonical g c =
    stored_canonical g.met.K.PartialEnum.lawful g.met.V.Eq.laws _ c.in-Ok.ensures.divided.back_form

pub returns-in-Err-clause-canonical : goal.returns-in-Err-clause-canonical
returns-in-Err-clause-canonical g c =
    let back = c.move_all.ensures.list ∙ c.in-Err.ensures.list in
    rw back (stored_canonical g.met.K.PartialEnum.lawful g.met.V.Eq.laws _ c.self.invariant)
