use Rattle.std.proofs.Common.{rules}
use Rattle.range_sets.proofs.set.compare.RangeSetPartialOrd.partial_cmp.Goals as goal

pub returns : goal.returns
returns g c = search rules
