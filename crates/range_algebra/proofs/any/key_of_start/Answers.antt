use Rattle.std.proofs.Common.{arith}
use Rattle.std.proofs.lemmas.Grind.{common_steps}
use Rattle.range_algebra.proofs.any.key_of_start.Goals as goal

pub returns-clause-named : goal.returns-clause-named
returns-clause-named g c = grind (arith, common_steps)
