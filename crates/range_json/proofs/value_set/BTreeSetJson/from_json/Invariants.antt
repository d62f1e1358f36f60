use Rattle.std.proofs.Common.{take}
use Rattle.range_json.proofs.ValueSets.{AreValuesSoRead}
use Rattle.range_json.proofs.value_set.BTreeSetJson.from_json.Given as goal

abbrev pub invariant-loop-element : goal.invariant-loop-element
invariant-loop-element g l =
    AreValuesSoRead g.J.JsonTree.content g.V.Ord.cmp g.V.Json.reads g.V.Json.is_read
    (take l.element-index l.elements) l.values
