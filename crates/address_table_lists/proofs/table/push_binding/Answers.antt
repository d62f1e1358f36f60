use Rattle.std.proofs.Common.{arith}
use Rattle.address_table_lists.proofs.TilesOf.{no_binding, one_binding}
use Rattle.address_table_lists.proofs.table.push_binding.Goals as goal

pub returns-then-span : goal.returns-then-span
returns-then-span g c = grind (arith, no_binding)

pub returns : goal.returns
returns g c = grind (arith, one_binding)
