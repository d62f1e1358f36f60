use Rattle.std.proofs.Common.{arith}
use Rattle.address_rows.proofs.Ends.{no_ends}
use Rattle.address_rows.proofs.line.ends_in.Goals as goal

pub returns-then-first-last-clause-cases : goal.returns-then-first-last-clause-cases
returns-then-first-last-clause-cases c = grind (arith, no_ends)
