use Rattle.range_map.proofs.Common.{arith, common_steps}
use Rattle.range_map.proofs.map.levels.RangeMap+K+V+BoxStorage+Item+AnyRange+K+V.levels.Goals as goal

pub returns : goal.returns
returns g c = grind (arith, common_steps)
