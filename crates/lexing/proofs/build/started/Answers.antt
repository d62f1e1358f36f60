use Rattle.std.proofs.Common.{arith}
use Rattle.lexing.proofs.build.started.Goals as goal

pub add-requires-clause-few : goal.add-requires-clause-few
add-requires-clause-few c = grind (arith, c.new-sets.ensures.none)

pub add-requires-clause-new : goal.add-requires-clause-new
add-requires-clause-new c = λ i other at. absurd (grind (arith, c.new-sets.ensures.none))

pub returns-clause-first : goal.returns-clause-first
returns-clause-first c =
    grind arith
