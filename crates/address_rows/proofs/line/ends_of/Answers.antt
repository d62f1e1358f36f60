use Rattle.address_rows.proofs.Ends.{neither_ends}
use Rattle.address_rows.proofs.line.ends_of.Goals as goal
use Rattle.std.proofs.Common.{arith}

pub returns-in-None-clause-cases : goal.returns-in-None-clause-cases
returns-in-None-clause-cases c = grind (arith, neither_ends)
