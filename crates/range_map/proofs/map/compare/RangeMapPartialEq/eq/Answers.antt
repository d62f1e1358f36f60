use Rattle.std.proofs.Common.{rules}
use Rattle.range_map.proofs.map.compare.RangeMapPartialEq.eq.Goals as goal

pub returns : goal.returns
returns g c =
    record { value = search rules; bound = search rules; same = search rules }
