use Rattle.line_program.proofs.Listing.{on_ok_as}
use Rattle.address_lists.proofs.count.write_count.Goals as goal
use Rattle.std.proofs.Common.{arith}

pub returns-in-Some : goal.returns-in-Some
returns-in-Some g c = grind (arith, on_ok_as)

pub returns-in-None : goal.returns-in-None
returns-in-None g c = grind (arith, on_ok_as)
