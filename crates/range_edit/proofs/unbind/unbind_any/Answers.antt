use Rattle.range_edit.proofs.Common.{common_steps, rules, arith}
use Rattle.range_edit.proofs.Lengths.{le_sum}
use Rattle.range_runs.proofs.Tests.{not_both}
use Rattle.range_edit.proofs.unbind.unbind_any.Goals as goal

pub unbind-requires-clause-nonempty : goal.unbind-requires-clause-nonempty
unbind-requires-clause-nonempty g c e =
    not_both c.if-is_empty.false (c.is_empty.ensures.by_position.1 e)

pub returns : goal.returns
returns g c = grind (arith, common_steps, not_both)

pub returns-then-is_empty : goal.returns-then-is_empty
returns-then-is_empty g c = grind (arith, common_steps, le_sum, rules)
