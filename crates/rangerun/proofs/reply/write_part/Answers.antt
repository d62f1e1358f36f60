use Rattle.std.proofs.Common.{arith, append_assoc, rules}
use Rattle.line_program.proofs.Listing.{appends_then}
use Rattle.rangerun.proofs.reply.write_part.Goals as goal

pub returns : goal.returns
returns g c = grind (arith, appends_then, append_assoc)
