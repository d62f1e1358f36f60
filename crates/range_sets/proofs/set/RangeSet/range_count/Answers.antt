use Rattle.std.proofs.Common.{rules}
use Rattle.range_sets.proofs.Likeness.{held_bound}
use Rattle.range_sets.proofs.set.RangeSet.range_count.Goals as goal

pub returns : goal.returns
returns g c =
    record {
      least =
          rw (← c.self.view_is)
          (λ complete others alike.
          c.range_count.ensures.least complete others
          ((held_bound g.T.MaybeBounded.order (g.C.Storage.items c.self.inside.map) others).0
          alike));
      value =
          search rules;
    }
