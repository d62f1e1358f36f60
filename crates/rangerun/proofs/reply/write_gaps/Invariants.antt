use Rattle.std.proofs.Common.{length}
use Rattle.std.specs.List.{AllByRecursion as Every}
use Rattle.btree_range_map.specs.Range.{IsEmptyRange}
use Rattle.rangerun.specs.Replies.{SpellsSpan}
use Rattle.line_program.proofs.Listing.{IsListing}
use Rattle.rangerun.proofs.reply.write_gaps.Given as goal

abbrev pub invariant-loop-gap : goal.invariant-loop-gap
invariant-loop-gap g l = record {
  nonempty : Every (λ gap. ¬ IsEmptyRange g.K.MaybeBounded.order gap) l.gaps;
  listing : IsListing (SpellsSpan g.K.MaybeBounded.order g.K.NumberKey.as_number) l.fn.gaps l.gaps
      (g.W.Write.contents l.fn.out) (g.W.Write.contents l.out) l.is_full;
}

abbrev pub decreases-loop-gap : goal.decreases-loop-gap
decreases-loop-gap g l = length l.gaps
