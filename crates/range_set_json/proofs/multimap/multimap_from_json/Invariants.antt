use Rattle.std.proofs.Common.{take}
use Rattle.range_json.specs.ValueSets.{reads_some_values, same_values, AreValuesRead}
use Rattle.range_map_json.proofs.MapReading.{IsMapSoFar}
use Rattle.range_set_json.proofs.multimap.multimap_from_json.Given as goal

abbrev pub invariant-loop-index : goal.invariant-loop-index
invariant-loop-index g l =
    IsMapSoFar g.J.JsonTree.content g.K.MaybeBounded.order g.K.Json.reads
    (reads_some_values g.V.Json.reads) g.K.Json.is_read (AreValuesRead g.V.Ord.cmp g.V.Json.is_read)
    (same_values g.V.PartialEq.eq) (take l.index l.elements) (g.C.Storage.items l.multimap)
