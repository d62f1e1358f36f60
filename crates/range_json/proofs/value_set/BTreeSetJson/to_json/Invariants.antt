use Rattle.range_json.proofs.Writing.{HasWritten, AreValuesSoFar}
use Rattle.range_json.proofs.value_set.BTreeSetJson.to_json.Given as goal

abbrev pub invariant-loop-value : goal.invariant-loop-value
invariant-loop-value g l = record {
  written : HasWritten g.V.Json.shape l.self.keys l.values l.written.items;
  values : AreValuesSoFar g.V.Json.is_value l.self.keys l.values;
}
