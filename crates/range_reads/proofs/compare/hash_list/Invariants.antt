use Rattle.range_reads.proofs.Common.{◌≡◌, length, fold, flat_map, item_input, list_input}
use Rattle.range_reads.proofs.compare.hash_list.Given as goal

abbrev pub invariant-loop-range : goal.invariant-loop-range
invariant-loop-range g l =
    fold g.H.Hasher.write l.state
    (flat_map (item_input g.K.MaybeBounded.order g.K.Hash.hash_input g.V.Hash.hash_input)
    l.items) ≡ fold g.H.Hasher.write l.fn.state
    (list_input g.K.MaybeBounded.order g.K.Hash.hash_input g.V.Hash.hash_input
    (g.C.Storage.items l.stored))

abbrev pub decreases-loop-range : goal.decreases-loop-range
decreases-loop-range g l = length l.items
