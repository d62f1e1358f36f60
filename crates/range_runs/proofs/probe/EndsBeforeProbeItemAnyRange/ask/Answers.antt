use Rattle.range_runs.proofs.Common.{arith, common_steps}
use Rattle.range_algebra.proofs.Holding.{excluded_end_before}
use Rattle.range_runs.proofs.probe.EndsBeforeProbeItemAnyRange.ask.Goals as goal

pub returns-in-Excluded-clause-answer : goal.returns-in-Excluded-clause-answer
returns-in-Excluded-clause-answer g c =
    let same = excluded_end_before g.K.MaybeBounded.order g.met.K.PartialEnum.lawful in
    grind (arith, common_steps, same)
