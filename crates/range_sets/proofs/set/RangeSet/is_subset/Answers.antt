use Rattle.std.proofs.Common.{arith}
use Rattle.range_map.proofs.KeysTogether.{inside_binds, binds_inside}
use Rattle.range_sets.proofs.set.RangeSet.is_subset.Goals as goal

pub returns-clause-inside : goal.returns-clause-inside
returns-clause-inside g c = rw (← c.self.view_is, ← c.other.view_is) c.lie_inside.ensures

pub returns-clause-held : goal.returns-clause-held
returns-clause-held g c =
    let met = returns-clause-inside g c in
    λ inside. inside_binds g.met.T.PartialEnum.lawful
    (g.C.Storage.items c.args.self.now) (g.D.Storage.items c.args.other.now) (met.0 inside)

pub returns-clause-complete : goal.returns-clause-complete
returns-clause-complete g c = grind (arith, binds_inside, returns-clause-inside)
