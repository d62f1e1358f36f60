use Rattle.std.proofs.Common.{rules}
use Rattle.range_keys.proofs.bound.DirectedBoundRefPartialEq.eq.Goals as goal

pub returns : goal.returns
returns g c = search rules
