use Rattle.std.proofs.Common.{rules}
use Rattle.range_map.proofs.StoredLists.{stored_compared, stored_same_order}
use Rattle.range_map.proofs.map.RangeMap.cmp_across.Goals as goal

pub returns-clause-value : goal.returns-clause-value
returns-clause-value g c = search rules

pub returns-clause-same : goal.returns-clause-same
returns-clause-same g c = λ complete.
    rw (returns-clause-value g c)
    (stored_compared g.met.K.PartialEnum.lawful g.met.V.Eq.laws g.V.Ord.cmp g.met.V.Ord.total
    g.met.V.Ord.matches_eq complete _ _ c.in_form.ensures.stored c.in_form-2.ensures.stored)

pub returns-clause-alike : goal.returns-clause-alike
returns-clause-alike g c = λ complete items others stored stored' alike alike'.
    rw (returns-clause-value g c)
    (stored_same_order g.met.K.PartialEnum.lawful g.met.V.Eq.laws g.V.Ord.cmp g.met.V.Ord.total
    g.met.V.Ord.matches_eq complete _ _ _ _ c.in_form.ensures.stored c.in_form-2.ensures.stored
    stored stored' alike alike')
