use Rattle.address_table_lists.proofs.table.by_longest.Goals as goal
use Rattle.std.proofs.Common.{arith}

pub returns : goal.returns
returns g c = grind arith
