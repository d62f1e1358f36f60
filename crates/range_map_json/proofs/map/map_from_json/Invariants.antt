use Rattle.std.proofs.Common.{take}
use Rattle.range_map_json.proofs.MapReading.{IsMapSoFar}
use Rattle.range_map_json.proofs.map.map_from_json.Given as goal

abbrev pub invariant-loop-index : goal.invariant-loop-index
invariant-loop-index g l =
    IsMapSoFar g.J.JsonTree.content g.K.MaybeBounded.order g.K.Json.reads g.V.Json.reads g.K.Json.is_read
    g.V.Json.is_read g.V.PartialEq.eq (take l.index l.elements) (g.C.Storage.items l.map)
