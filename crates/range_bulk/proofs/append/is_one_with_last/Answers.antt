use Rattle.range_bulk.proofs.Common.{arith, false≢true, common_steps}
use Rattle.range_bulk.proofs.append.is_one_with_last.Goals as goal

pub returns-in-None : goal.returns-in-None
returns-in-None g c =
    record { one = λ h. absurd (false≢true h); apart = grind (arith, common_steps) }

pub returns-in-Some : goal.returns-in-Some
returns-in-Some g c =
    record { one = grind (arith, common_steps); apart = grind (arith, common_steps) }
