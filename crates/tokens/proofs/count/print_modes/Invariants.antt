use Rattle.line_program.specs.Listing.{Writes}
use Rattle.tokens.specs.Counts.{AreCounted}
use Rattle.tokens.proofs.count.print_modes.Given as goal

abbrev pub invariant-loop-mode : goal.invariant-loop-mode
invariant-loop-mode g l = Writes (g.W.Write.contents l.fn.out) (g.W.Write.contents l.out)
    (AreCounted l.printer.modes.now l.text l.mode l.is_whole)
