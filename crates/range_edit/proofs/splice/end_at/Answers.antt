use Rattle.range_edit.proofs.Common.{common_steps, arith}
use Rattle.range_edit.proofs.OuterBounds.{set_last}
use Rattle.range_edit.proofs.splice.end_at.Goals as goal

pub returns-in-Some-last_mut : goal.returns-in-Some-last_mut
returns-in-Some-last_mut g c = grind (arith, common_steps, set_last)
