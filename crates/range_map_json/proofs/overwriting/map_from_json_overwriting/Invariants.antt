use Rattle.std.proofs.Common.{[], take}
use Rattle.range_map.specs.Extending.{AreBoundAfter}
use Rattle.range_json.specs.MapFaults.{element_fault, IsElementRead}
use Rattle.range_map_json.proofs.ElementLoop.{IsReadSoFar}
use Rattle.range_map_json.proofs.overwriting.map_from_json_overwriting.Given as goal

-- the list binds what the last of the elements binds
abbrev pub invariant-loop-index : goal.invariant-loop-index
invariant-loop-index g l =
    IsReadSoFar g.J.JsonTree.content g.K.MaybeBounded.order g.V.PartialEq.eq (λ xs. xs) (λ x. x)
    (element_fault g.K.Json.reads g.V.Json.reads) (IsElementRead g.K.Json.is_read g.V.Json.is_read)
    (AreBoundAfter g.K.MaybeBounded.order g.V.PartialEq.eq []) (take l.index l.elements)
    (g.C.Storage.items l.map)
