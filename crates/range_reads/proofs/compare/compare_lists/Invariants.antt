use Rattle.range_reads.proofs.Common.{◌≡◌, length, list_cmp}
use Rattle.range_reads.proofs.compare.compare_lists.Given as goal

abbrev pub invariant-loop-range : goal.invariant-loop-range
invariant-loop-range g l =
    list_cmp g.K.MaybeBounded.order g.V.Ord.cmp (g.C.Storage.items l.left)
    (g.D.Storage.items l.right) ≡ list_cmp g.K.MaybeBounded.order g.V.Ord.cmp l.items l.others

abbrev pub decreases-loop-range : goal.decreases-loop-range
decreases-loop-range g l = length l.items
