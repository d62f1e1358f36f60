use Rattle.range_bulk.proofs.Common.{arith, common_steps, error_has_no_value}
use Rattle.range_bulk.proofs.split.prepare.Goals as goal

pub returns-in_err-reserve : goal.returns-in_err-reserve
returns-in_err-reserve g c = grind (arith, common_steps, error_has_no_value)

pub returns-in_err-end : goal.returns-in_err-end
returns-in_err-end g c = grind (arith, common_steps, error_has_no_value)

pub returns-in_err-value : goal.returns-in_err-value
returns-in_err-value g c = grind (arith, common_steps, error_has_no_value)
