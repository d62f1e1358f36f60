use Rattle.std.proofs.Common.{arith}
use Rattle.range_sets.proofs.KeptKeys.{shown_is, combined_kept}
use Rattle.range_sets.proofs.set.RangeSet.kept.Goals as goal

pub returns-in-Ok-clause-kept : goal.returns-in-Ok-clause-kept
returns-in-Ok-clause-kept g c = grind (arith, combined_kept, shown_is)
