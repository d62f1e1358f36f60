use Rattle.range_bulk.proofs.Common.{arith, common_steps}
use Rattle.range_bulk.proofs.append.put_last.Goals as goal

pub returns-then-are_one : goal.returns-then-are_one
returns-then-are_one g c =
    record { list = grind (arith, common_steps); room = omega (arith, c.insert_at-position.ensures.space) }
