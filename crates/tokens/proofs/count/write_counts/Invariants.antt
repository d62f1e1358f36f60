use Rattle.std.proofs.Common.{ℕ, List}
use Rattle.line_program.specs.Listing.{Writes}
use Rattle.tokens.specs.Counts.{AreCountLines, AreCounts}
use Rattle.tokens.proofs.count.write_counts.Given as goal

abbrev pub invariant-loop-rule : goal.invariant-loop-rule
invariant-loop-rule g l = (numbers : List ℕ) → AreCounts numbers l.counts
    → Writes (g.W.Write.contents l.fn.out) (g.W.Write.contents l.out)
    (AreCountLines l.lexer numbers l.rule)
