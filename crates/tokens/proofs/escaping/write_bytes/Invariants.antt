use Rattle.std.proofs.Common.{take}
use Rattle.std.specs.Io.KnownBytes.{Appends}
use Rattle.tokens.specs.Escaping.{escaped}
use Rattle.tokens.proofs.escaping.write_bytes.Given as goal

abbrev pub invariant-loop-at : goal.invariant-loop-at
invariant-loop-at g l =
    Appends (g.W.Write.contents l.fn.out) (g.W.Write.contents l.out) (escaped (take l.at l.text))
