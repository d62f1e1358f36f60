use Rattle.std.proofs.Common.{rules}
use Rattle.range_map.proofs.map.compare.RangeMapOrd.cmp.Goals as goal

pub returns : goal.returns
returns g c =
    record { value = search rules; same = search rules; alike = search rules }
