use Rattle.range_edit.proofs.Common.{arith, common_steps}
use Rattle.range_edit.proofs.unbind.unbind_met.Goals as goal

pub unbind_inside-requires-clause-within : goal.unbind_inside-requires-clause-within
unbind_inside-requires-clause-within g c = grind (arith, common_steps)
