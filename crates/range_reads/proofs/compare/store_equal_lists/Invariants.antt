use Rattle.range_reads.proofs.Common.{◌≡◌, length, same_list}
use Rattle.range_reads.proofs.compare.store_equal_lists.Given as goal

abbrev pub invariant-loop-range : goal.invariant-loop-range
invariant-loop-range g l = record {
  as_long : length l.items ≡ length l.others;
  same : same_list g.K.MaybeBounded.order g.V.PartialEq.eq (g.C.Storage.items l.left)
      (g.D.Storage.items l.right)
      ≡ same_list g.K.MaybeBounded.order g.V.PartialEq.eq l.items l.others;
}

abbrev pub decreases-loop-range : goal.decreases-loop-range
decreases-loop-range g l = length l.items
