use Rattle.std.proofs.Common.{length}
use Rattle.rangecalc.specs.Replies.{SpellsItem}
use Rattle.line_program.proofs.Listing.{IsListing}
use Rattle.rangecalc.proofs.listing.write_items.Given as goal

abbrev pub invariant-loop-range : goal.invariant-loop-range
invariant-loop-range g l =
    IsListing SpellsItem l.fn.items l.items (g.W.Write.contents l.fn.out) (g.W.Write.contents l.out)
    l.is_empty

abbrev pub decreases-loop-range : goal.decreases-loop-range
decreases-loop-range g l = length l.items
