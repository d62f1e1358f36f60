use Rattle.address_lists.proofs.sets.is_subset.Goals as goal
use Rattle.std.proofs.Common.{arith}

pub returns : goal.returns
returns g c = grind arith
