use Rattle.range_map.proofs.Common.{arith, common_steps, error_has_no_value}
use Rattle.range_map.proofs.map.RangeMap.from_iter.Goals as goal

pub returns-in_err-extend : goal.returns-in_err-extend
returns-in_err-extend g c = grind (arith, common_steps, error_has_no_value)
