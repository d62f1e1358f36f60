use Rattle.address_lists.proofs.sets.is_disjoint.Goals as goal
use Rattle.std.proofs.Common.{arith}

pub returns : goal.returns
returns g c = grind arith
