use Rattle.std.proofs.Common.{arith}
use Rattle.serde_json.proofs.Views.{view-Array}
use Rattle.range_json.proofs.Writing.{written_more, values_more, all_written, all_values}
use Rattle.range_json.proofs.value_set.BTreeSetJson.to_json.Goals as goal

pub loop-value-preserved : goal.loop-value-preserved
loop-value-preserved g c = grind (arith, values_more, written_more)

pub returns-clause-written : goal.returns-clause-written
returns-clause-written g c = grind (arith, all_written, view-Array)

pub returns-clause-known : goal.returns-clause-known
returns-clause-known g c = grind (arith, all_values)
