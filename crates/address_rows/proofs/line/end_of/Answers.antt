use Rattle.address_rows.proofs.Ends.{read_v4}
use Rattle.address_rows.proofs.line.end_of.Goals as goal

pub returns-in-None-clause-cases : goal.returns-in-None-clause-cases
returns-in-None-clause-cases c =
    rw c.in-V4.is (read_v4 c.args.text.now c.read.result c.in-None.ensures c.read.ensures.cases)

pub returns-in-V6-clause-cases : goal.returns-in-V6-clause-cases
returns-in-V6-clause-cases c = rw c.in-V6.is c.read-in-V6.ensures.cases
