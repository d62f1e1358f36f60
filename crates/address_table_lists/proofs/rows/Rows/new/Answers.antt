use Rattle.std.proofs.Common.{arith}
use Rattle.address_table_lists.proofs.Held.{hold_none}
use Rattle.address_table_lists.proofs.rows.Rows.new.Goals as goal

pub returns : goal.returns
returns c = grind (arith, hold_none)
