use Rattle.std.proofs.Common.{arith}
use Rattle.tokens.proofs.Escapes.{written_more, written_all}
use Rattle.tokens.proofs.escaping.write_bytes.Goals as goal

pub loop-at-preserved : goal.loop-at-preserved
loop-at-preserved g c = grind (arith, written_more)

pub returns : goal.returns
returns g c = grind (arith, written_all)
