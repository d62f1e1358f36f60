use Rattle.std.proofs.Common.{rules}
use Rattle.range_sets.proofs.set.RangeSet.bounded_len.Goals as goal

pub returns : goal.returns
returns g c =
    record {
      unknown =
          rw (← c.self.view_is) c.bounded_len.ensures.unknown;
      measure =
          search rules;
      counted =
          search rules;
    }
