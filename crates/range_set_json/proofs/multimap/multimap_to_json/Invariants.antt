use Rattle.std.proofs.Common.{length}
use Rattle.range_json.specs.Shapes.{range_shape, pair_shape}
use Rattle.range_json.specs.Values.{IsRangeValue}
use Rattle.range_json.specs.ValueSets.{values_shape, IsValueSet}
use Rattle.range_map_json.proofs.WritingLoop.{IsWrittenSoFar}
use Rattle.range_set_json.proofs.multimap.multimap_to_json.Given as goal

abbrev pub invariant-loop-range : goal.invariant-loop-range
invariant-loop-range g l =
    IsWrittenSoFar (λ i. pair_shape (range_shape g.K.Json.shape i.key)
    (values_shape g.V.Json.shape i.value))
    (λ i. IsRangeValue g.K.Json.is_value i.key × IsValueSet g.V.Ord.cmp g.V.Json.is_value i.value)
    (g.C.Storage.items l.multimap) l.items l.written.items

abbrev pub decreases-loop-range : goal.decreases-loop-range
decreases-loop-range g l = length l.items
