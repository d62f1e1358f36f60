use Rattle.std.proofs.Common.{arith}
use Rattle.range_multimaps.proofs.Pairing.{values_of_item}
use Rattle.range_multimaps.proofs.multimap.laws.stored_sets_have_all_values.Goals as goal

pub returns : goal.returns
returns g c = λ items form k key i at. grind (arith, values_of_item)
