use Rattle.address_lists.proofs.Lookups.{of_v4, of_v6}
use Rattle.address_lists.proofs.lookup.run_of.Goals as goal
use Rattle.std.proofs.Common.{arith}

pub returns-in-V4 : goal.returns-in-V4
returns-in-V4 c = grind (arith, of_v4)

pub returns-in-V6 : goal.returns-in-V6
returns-in-V6 c = grind (arith, of_v6)
