use Rattle.address_sets.proofs.runs.RunsIterator.next.Goals as goal
use Rattle.std.proofs.Common.{arith}

pub returns-clause-steps : goal.returns-clause-steps
returns-clause-steps g c = grind arith
