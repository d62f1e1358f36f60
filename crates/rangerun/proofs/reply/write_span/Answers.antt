use Rattle.std.proofs.Common.{arith}
use Rattle.line_program.proofs.Listing.{appends_then}
use Rattle.rangerun.proofs.reply.write_span.Goals as goal

pub returns : goal.returns
returns g c = grind (arith, appends_then)
