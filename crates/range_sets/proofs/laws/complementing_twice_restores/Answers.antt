use Rattle.std.proofs.Common.{subst, IsTrue}
use Rattle.range_sets.proofs.ComplementTwice.{complement_twice}
use Rattle.range_sets.proofs.Likeness.{same_sets}
use Rattle.range_sets.proofs.laws.complementing_twice_restores.Goals as goal

pub returns : goal.returns
returns g c = λ items others thirds stored gaps again.
    let order = g.T.MaybeBounded.order in
    subst IsTrue (same_sets order thirds items)
    (complement_twice order g.met.T.PartialEnum.lawful items others thirds stored gaps again)
