use Rattle.range_map.proofs.StoredLists.{stored_canonical}
use Rattle.range_map.proofs.inner.build.map_of.Goals as goal

pub returns-clause-canonical : goal.returns-clause-canonical
returns-clause-canonical g c =
    rw (c.append.ensures.list, c.reserve.ensures.list, c.new-stored.ensures) (stored_canonical g.met.K.PartialEnum.lawful g.met.X.Eq.laws _ c.requires)
