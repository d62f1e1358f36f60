use Rattle.std.proofs.Common.{rules}
use Rattle.range_keys.proofs.bound.DirectedBoundRefHash.hash.Goals as goal

pub returns-after-side : goal.returns-after-side
returns-after-side g c = search rules
