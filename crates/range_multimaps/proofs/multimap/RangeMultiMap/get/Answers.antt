use Rattle.std.proofs.Common.{arith}
use Rattle.range_multimaps.proofs.Pairing.{values_at, full_at, none_unpaired}
use Rattle.range_multimaps.proofs.multimap.RangeMultiMap.get.Goals as goal

pub returns-clause-values : goal.returns-clause-values
returns-clause-values g c = grind (arith, values_at)

pub returns-clause-nonempty : goal.returns-clause-nonempty
returns-clause-nonempty g c =
    full_at g.K.MaybeBounded.order g.met.S.Eq.laws g.met.S.MaybeEmpty.void_equal c.args.key
    (g.C.Storage.items c.self.inside.map) c.self.invariant c.get.result c.get.ensures.value

pub returns-clause-none : goal.returns-clause-none
returns-clause-none g c =
    none_unpaired g.K.MaybeBounded.order g.met.S.SetMut.void_is c.args.key
    (g.C.Storage.items c.args.self.now) c.get.result
    (returns-clause-values g c) (returns-clause-nonempty g c)
