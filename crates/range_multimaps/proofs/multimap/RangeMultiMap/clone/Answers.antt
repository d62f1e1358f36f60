use Rattle.std.proofs.Common.{arith}
use Rattle.range_multimaps.proofs.Pairing.{copied_full}
use Rattle.range_multimaps.proofs.multimap.RangeMultiMap.clone.Goals as goal

pub invariant_of-result : goal.invariant_of-result
invariant_of-result g c = grind (arith, copied_full)

pub returns-clause-nonempty : goal.returns-clause-nonempty
returns-clause-nonempty g c = invariant_of-result g c
