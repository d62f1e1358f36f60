use Rattle.std.proofs.Common.{[], take, true}
use Rattle.range_sets.specs.KeySets.{HoldsAllAlso}
use Rattle.range_map_json.proofs.ElementLoop.{IsReadSoFar}
use Rattle.range_set_json.specs.Faults.{range_fault, range_items, IsRangeRead}
use Rattle.range_set_json.proofs.set.set_from_json.Given as goal

-- the list holds just the keys of the ranges
abbrev pub invariant-loop-index : goal.invariant-loop-index
invariant-loop-index g l =
    IsReadSoFar g.J.JsonTree.content g.T.MaybeBounded.order (λ _ _. true) range_items
    (λ r. record { key = r; value = tt }) (range_fault g.T.Json.reads)
    (IsRangeRead g.T.Json.is_read) (HoldsAllAlso g.T.MaybeBounded.order []) (take l.index l.elements)
    (g.C.Storage.items l.set)
