use Rattle.range_edit.proofs.Common.{arith, common_steps}
use Rattle.range_edit.proofs.JoinedItems.{left_reaching, left_other, left_touching}
use Rattle.range_edit.proofs.borders.joins_before.Goals as goal

pub returns-then-eq-clause-joins : goal.returns-then-eq-clause-joins
returns-then-eq-clause-joins g c = grind (arith, common_steps, left_reaching)

pub returns-else-eq-clause-joins : goal.returns-else-eq-clause-joins
returns-else-eq-clause-joins g c = grind (arith, common_steps, left_other)

pub returns-in-None-clause-joins : goal.returns-in-None-clause-joins
returns-in-None-clause-joins g c = left_touching g.met.K.PartialEnum.lawful g.met.V.Eq.laws
    c.requires.window c.args.value.now c.args.ends.now.first _ c.in-None.is
    c.joined_before.ensures.joined
