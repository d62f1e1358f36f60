use Rattle.range_runs.proofs.Common.{arith, common_steps}
use Rattle.range_runs.proofs.bounds.cut_bound.Goals as goal

pub returns-clause-flipped : goal.returns-clause-flipped
returns-clause-flipped g c = grind (arith, common_steps)
