use Rattle.std.proofs.Common.{arith}
use Rattle.address_sets.proofs.prefixes.PrefixesIterator.next.Goals as goal

pub returns-clause-steps : goal.returns-clause-steps
returns-clause-steps g c = grind arith

pub returns-clause-goes : goal.returns-clause-goes
returns-clause-goes g c = grind (arith, returns-clause-steps)
