use Rattle.std.proofs.Common.{rules}
use Rattle.range_keys.proofs.inner.position.compare_positions.Goals as goal

pub returns-in-Beside-Beside : goal.returns-in-Beside-Beside
returns-in-Beside-Beside g c = search rules
