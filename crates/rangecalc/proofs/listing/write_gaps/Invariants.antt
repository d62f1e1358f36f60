use Rattle.std.proofs.Common.{length}
use Rattle.rangecalc.specs.Replies.{SpellsGap}
use Rattle.line_program.proofs.Listing.{IsListing}
use Rattle.rangecalc.proofs.listing.write_gaps.Given as goal

abbrev pub invariant-loop-gap : goal.invariant-loop-gap
invariant-loop-gap g l =
    IsListing SpellsGap l.fn.gaps l.gaps (g.W.Write.contents l.fn.out) (g.W.Write.contents l.out)
    l.is_empty

abbrev pub decreases-loop-gap : goal.decreases-loop-gap
decreases-loop-gap g l = length l.gaps
