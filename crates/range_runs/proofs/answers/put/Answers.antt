use Rattle.range_runs.proofs.Common.{arith, common_steps}
use Rattle.range_runs.proofs.answers.put.Goals as goal

pub returns : goal.returns
returns g c = grind (arith, common_steps)

pub returns-then-joins_last : goal.returns-then-joins_last
returns-then-joins_last g c = grind (arith, common_steps)
