use Rattle.line_program.proofs.Listing.{appends_then, on_ok_as}
use Rattle.address_lists.proofs.lookup.write_told_run.Goals as goal
use Rattle.std.proofs.Common.{arith}

pub returns-in_ok-write-in-Some : goal.returns-in_ok-write-in-Some
returns-in_ok-write-in-Some g c = grind (arith, on_ok_as, appends_then)
