use Rattle.range_edit.proofs.Common.{arith, common_steps}
use Rattle.range_edit.proofs.JoinedItems.{right_reaching, right_other, right_touching}
use Rattle.range_edit.proofs.borders.joins_after.Goals as goal

pub returns-then-eq-clause-joins : goal.returns-then-eq-clause-joins
returns-then-eq-clause-joins g c = grind (arith, common_steps, right_reaching)

pub returns-else-eq-clause-joins : goal.returns-else-eq-clause-joins
returns-else-eq-clause-joins g c = grind (arith, common_steps, right_other)

pub returns-in-None-clause-joins : goal.returns-in-None-clause-joins
returns-in-None-clause-joins g c = right_touching g.met.K.PartialEnum.lawful g.met.V.Eq.laws
    c.requires.window c.args.value.now c.args.ends.now.last _ c.in-None.is
    (g.met.C.Storage.good_is_in_range c.args.stored.now) c.joined_after.ensures.joined
