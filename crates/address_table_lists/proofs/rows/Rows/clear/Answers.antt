use Rattle.std.proofs.Common.{arith}
use Rattle.address_table_lists.proofs.Held.{hold_none}
use Rattle.address_table_lists.proofs.rows.Rows.clear.Goals as goal

pub returns-clause-none : goal.returns-clause-none
returns-clause-none c = grind (arith, hold_none)
