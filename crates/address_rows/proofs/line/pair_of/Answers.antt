use Rattle.std.proofs.Common.{arith}
use Rattle.address_rows.proofs.Fields.{both, no_first, no_second}
use Rattle.address_rows.proofs.line.pair_of.Goals as goal

pub returns-in_err-get : goal.returns-in_err-get
returns-in_err-get c = grind (arith, no_first)

pub returns-in_err-get-2 : goal.returns-in_err-get-2
returns-in_err-get-2 c = grind (arith, no_second)

pub returns : goal.returns
returns c = grind (arith, both)
