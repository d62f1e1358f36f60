use Rattle.std.proofs.Common.{length}
use Rattle.std.specs.List.{AllByRecursion}
use Rattle.btree_range_map.specs.Range.{IsEmptyRange}
use Rattle.rangerun.specs.Replies.{SpellsPart}
use Rattle.line_program.proofs.Listing.{HasShown}
use Rattle.rangerun.proofs.reply.write_parts.Given as goal

abbrev pub invariant-loop-range : goal.invariant-loop-range
invariant-loop-range g l = record {
  nonempty : AllByRecursion (λ item. ¬ IsEmptyRange g.K.MaybeBounded.order item.key) l.parts;
  shown : HasShown (SpellsPart g.K.MaybeBounded.order g.K.NumberKey.as_number)
      (g.C.Storage.items l.map) l.parts (g.W.Write.contents l.fn.out) (g.W.Write.contents l.out);
}

abbrev pub decreases-loop-range : goal.decreases-loop-range
decreases-loop-range g l = length l.parts
