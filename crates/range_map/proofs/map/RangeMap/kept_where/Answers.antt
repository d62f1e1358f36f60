use Rattle.std.proofs.Common.{rules}
use Rattle.range_map.proofs.Overlays.{left_over, restricted}
use Rattle.range_map.proofs.map.RangeMap.kept_where.Goals as goal

pub returns-in-Ok-clause-restricted : goal.returns-in-Ok-clause-restricted
returns-in-Ok-clause-restricted g c = λ bound.
    restricted g.K.MaybeBounded.order g.met.K.PartialEnum.lawful g.met.V.Eq.laws
    g.W.PartialEq.eq g.V.Clone.is_clone c.requires.values _ _ _ c.in_form.ensures.stored _
    c.in-Ok.ensures.bound c.args.bound bound
    (λ left right copy is. rw (← is.shows, ← is.other_shows) (let says = is.says in search rules))

pub returns-in-Ok-clause-without : goal.returns-in-Ok-clause-without
returns-in-Ok-clause-without g c = λ bound.
    left_over g.K.MaybeBounded.order g.met.K.PartialEnum.lawful g.met.V.Eq.laws
    g.W.PartialEq.eq g.V.Clone.is_clone c.requires.values _ _ _ c.in_form.ensures.stored _
    c.in-Ok.ensures.bound c.args.bound bound
    (λ left right copy is. rw (← is.shows, ← is.other_shows) (let says = is.says in search rules))
