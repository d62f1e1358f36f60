use Rattle.range_multimaps.proofs.Filled.{inserted_full}
use Rattle.range_multimaps.proofs.multimap.disjoint.insert_set.Goals as goal

pub invariant_of-multimap : goal.invariant_of-multimap
invariant_of-multimap g c =
    let done = c.try_insert.ensures in
    inserted_full g.K.MaybeBounded.order g.S.PartialEq.eq g.S.MaybeEmpty.is_void
    g.met.S.MaybeEmpty.void_equal (g.C.Storage.items c.multimap.inside.map)
    (g.C.Storage.items c.try_insert.new.self) c.args.range c.args.set c.try_insert.result
    c.requires c.multimap.invariant done.frame done.refused done.empty_unchanged

pub returns-clause-meets : goal.returns-clause-meets
returns-clause-meets g c = rw (← c.multimap.view_is) c.try_insert.ensures.meets

pub returns-clause-nonempty : goal.returns-clause-nonempty
returns-clause-nonempty g c = invariant_of-multimap g c
