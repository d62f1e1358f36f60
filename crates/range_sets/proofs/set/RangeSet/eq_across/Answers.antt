use Rattle.std.proofs.Common.{arith}
use Rattle.range_sets.proofs.Likeness.{held_bound, same_sets}
use Rattle.range_sets.proofs.set.RangeSet.eq_across.Goals as goal

pub returns : goal.returns
returns g c =
    let alike =
    held_bound g.T.MaybeBounded.order (g.C.Storage.items c.self.inside.map)
    (g.D.Storage.items c.other.inside.map) in
    grind (arith, same_sets)
