use Rattle.line_program.proofs.Listing.{writes_as}
use Rattle.address_lists.proofs.split.write_set.Goals as goal
use Rattle.std.proofs.Common.{arith}

pub returns : goal.returns
returns g c = grind (arith, writes_as)
