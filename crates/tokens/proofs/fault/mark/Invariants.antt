use Rattle.std.specs.Prelude.{◌++◌, codes, map}
use Rattle.std.specs.Io.KnownBytes.{Appends}
use Rattle.tokens.specs.Faults.{blank_below}
use Rattle.tokens.proofs.fault.mark.Given as goal

abbrev pub invariant-loop-c : goal.invariant-loop-c
invariant-loop-c g l =
    Appends (g.E.Write.contents l.fn.err) (g.E.Write.contents l.err)
    (codes "  " ++ map blank_below l.yielded)
