use Rattle.std.proofs.Common.{arith}
use Rattle.range_algebra.proofs.Holding.{past_excluded_end}
use Rattle.range_merge.proofs.comparing.starts_past.Goals as goal

pub returns-in-Included-Excluded : goal.returns-in-Included-Excluded
returns-in-Included-Excluded g c =
    let same = past_excluded_end g.K.MaybeBounded.order g.met.K.PartialEnum.lawful in
    grind (arith, same)
