use Rattle.range_map.specs.Askable.{asked_anything_asked_of_free, asked_anything_asked_of_each}
use Rattle.range_multimaps.proofs.Pairing.{stays_full, not_refused}
use Rattle.range_multimaps.proofs.multimap.RangeMultiMap.update_sets.Goals as goal

pub update-requires-clause-free : goal.update-requires-clause-free
update-requires-clause-free g c = asked_anything_asked_of_free g.F.Fn c.args.f c.requires.callable

pub update-requires-clause-bound : goal.update-requires-clause-bound
update-requires-clause-bound g c =
    asked_anything_asked_of_each g.F.Fn c.args.f c.requires.callable
    (g.C.Storage.items c.self.inside.map)

pub invariant_of-self : goal.invariant_of-self
invariant_of-self g c = rw c.in-Err.ensures.refused c.self.invariant

pub invariant_of-self-2 : goal.invariant_of-self-2
invariant_of-self-2 g c =
    stays_full g.K.MaybeBounded.order g.met.S.Eq.laws g.met.S.MaybeEmpty.void_equal
    (not_refused c.update.result c.update.ensures.updated c.in_default.not-Err)
    c.requires.nonempty c.self.invariant c.update.ensures.empty_unchanged

pub returns-clause-updated : goal.returns-clause-updated
returns-clause-updated g c =
    rw (← c.self.view_is)
    (not_refused c.update.result c.update.ensures.updated c.in_default.not-Err)

pub returns-clause-rebound : goal.returns-clause-rebound
returns-clause-rebound g c =
    rw (← c.self.view_is)
    (not_refused c.update.result c.update.ensures.rebound c.in_default.not-Err)

pub returns-clause-spelled : goal.returns-clause-spelled
returns-clause-spelled g c =
    rw (← c.self.view_is)
    (not_refused c.update.result c.update.ensures.spelled c.in_default.not-Err)

pub returns-clause-nonempty : goal.returns-clause-nonempty
returns-clause-nonempty g c = invariant_of-self-2 g c

pub returns-in-Err-clause-nonempty : goal.returns-in-Err-clause-nonempty
returns-in-Err-clause-nonempty g c = invariant_of-self g c
