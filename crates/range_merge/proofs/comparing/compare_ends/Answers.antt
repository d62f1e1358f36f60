use Rattle.std.proofs.Common.{arith}
use Rattle.range_merge.proofs.ExcludedEnds.{excluded_ends}
use Rattle.range_merge.proofs.comparing.compare_ends.Goals as goal

pub returns-in-Excluded-Excluded : goal.returns-in-Excluded-Excluded
returns-in-Excluded-Excluded g c =
    let same = excluded_ends g.K.MaybeBounded.order g.met.K.PartialEnum.lawful in
    grind (arith, same)
