use Rattle.std.proofs.Common.{refl}
use Rattle.rangecalc.proofs.Made.{some_overlap}
use Rattle.rangecalc.proofs.answer.taken.Goals as goal

pub unreachable-requires : goal.unreachable-requires
unreachable-requires g c =
    some_overlap g.K.MaybeBounded.order c.args.range _ _ c.requires.meets
    (c.overlapping.ensures.items c.requires.nonempty) c.in-None.ensures.steps.0

pub returns : goal.returns
returns g c =
    let overlap = c.overlapping.ensures.items c.requires.nonempty in
    (_, _, c.requires.nonempty, rw c.in-Some.ensures.steps at overlap, refl)
