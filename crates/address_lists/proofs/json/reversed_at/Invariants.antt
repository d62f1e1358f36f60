use Rattle.std.proofs.Common.{map, take}
use Rattle.std.specs.List.{AllByRecursion}
use Rattle.serde_json.specs.View.{view}
use Rattle.address_lists.specs.Json.{IsInOrder}
use Rattle.address_lists.proofs.json.reversed_at.Given as goal

abbrev pub invariant-loop-index : goal.invariant-loop-index
invariant-loop-index g l =
    AllByRecursion (IsInOrder g.A.Json.is_read g.A.Address.number g.A.Json.reads)
    (map view (take l.index l.elements))
