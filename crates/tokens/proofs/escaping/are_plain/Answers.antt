use Rattle.std.proofs.Common.{arith}
use Rattle.tokens.proofs.Escapes.{plain_more, plain_all}
use Rattle.tokens.proofs.escaping.are_plain.Goals as goal

pub loop-at-preserved : goal.loop-at-preserved
loop-at-preserved c = grind (arith, plain_more)

pub returns : goal.returns
returns c = grind (arith, plain_all)
