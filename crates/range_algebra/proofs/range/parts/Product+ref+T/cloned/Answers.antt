use Rattle.std.proofs.Common.{rules}
use Rattle.range_algebra.proofs.range.parts.Product+ref+T.cloned.Goals as goal

pub returns : goal.returns
returns g c = search rules
