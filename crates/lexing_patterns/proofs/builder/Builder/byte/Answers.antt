use Rattle.std.proofs.Common.{arith}
use Rattle.std.proofs.lemmas.Result.{IfOk-weaker}
use Rattle.lexing_patterns.proofs.Making.{bytes_built}
use Rattle.lexing_patterns.proofs.builder.Builder.byte.Goals as goal

pub returns-clause-built : goal.returns-clause-built
returns-clause-built c =
    IfOk-weaker c.character.result _ _
    (λ part is. bytes_built c.args.class.now.ranges.items part _ _
    (c.is_within.ensures.0 c.if-not-is_within.false) is)
    (rw c.deref.ensures.value at c.character.ensures.built)
