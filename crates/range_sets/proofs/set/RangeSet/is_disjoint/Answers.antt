use Rattle.std.proofs.Common.{arith}
use Rattle.range_map.proofs.KeysTogether.{apart_share_none, share_none_apart}
use Rattle.range_sets.proofs.set.RangeSet.is_disjoint.Goals as goal

pub returns-clause-meets : goal.returns-clause-meets
returns-clause-meets g c = rw (← c.self.view_is, ← c.other.view_is) c.meet_nowhere.ensures

pub returns-clause-held : goal.returns-clause-held
returns-clause-held g c =
    let met = returns-clause-meets g c in
    λ apart. apart_share_none g.met.T.PartialEnum.lawful
    (g.C.Storage.items c.args.self.now) (g.D.Storage.items c.args.other.now) (met.0 apart)

pub returns-clause-complete : goal.returns-clause-complete
returns-clause-complete g c = grind (arith, returns-clause-meets, share_none_apart)
