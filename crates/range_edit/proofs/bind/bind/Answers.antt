use Rattle.range_edit.proofs.Common.{arith, common_steps}
use Rattle.range_edit.proofs.bind.bind.Goals as goal

pub bind_inside-requires-clause-within : goal.bind_inside-requires-clause-within
bind_inside-requires-clause-within g c = grind (arith, common_steps)
