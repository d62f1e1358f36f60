use Rattle.std.proofs.Common.{rules}
use Rattle.range_map.proofs.StoredLists.{equal_binds, stored_equal}
use Rattle.range_map.proofs.map.RangeMap.eq_across.Goals as goal

pub returns-clause-value : goal.returns-clause-value
returns-clause-value g c = search rules

pub returns-clause-bound : goal.returns-clause-bound
returns-clause-bound g c =
    rw (returns-clause-value g c) (equal_binds g.met.K.PartialEnum.lawful g.met.V.Eq.laws _ _)

pub returns-clause-same : goal.returns-clause-same
returns-clause-same g c = λ complete.
    rw (returns-clause-value g c)
    (stored_equal g.met.K.PartialEnum.lawful g.met.V.Eq.laws complete _ _
    c.in_form.ensures.stored c.in_form-2.ensures.stored)
