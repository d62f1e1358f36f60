use Rattle.range_map.proofs.StoredLists.{stored_canonical}
use Rattle.range_map.proofs.map.RangeMap.in_form.Goals as goal

pub returns-clause-canonical : goal.returns-clause-canonical
returns-clause-canonical g c =
    rw (← c.self.view_is) (stored_canonical g.met.K.PartialEnum.lawful g.met.V.Eq.laws _ c.self.invariant)
