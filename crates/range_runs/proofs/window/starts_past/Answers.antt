use Rattle.range_runs.proofs.Common.{arith, common_steps}
use Rattle.range_algebra.proofs.Holding.{past_excluded_end}
use Rattle.range_runs.proofs.window.starts_past.Goals as goal

pub returns-in-Included-End-Excluded-clause-past : goal.returns-in-Included-End-Excluded-clause-past
returns-in-Included-End-Excluded-clause-past g c =
    let same = past_excluded_end g.K.MaybeBounded.order g.met.K.PartialEnum.lawful in
    grind (arith, common_steps, same)
