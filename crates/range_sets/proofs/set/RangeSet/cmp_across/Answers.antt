use Rattle.std.proofs.Common.{◌∙◌, arith}
use Rattle.range_sets.proofs.Likeness.{held_bound, compared_sets}
use Rattle.range_sets.proofs.set.RangeSet.cmp_across.Goals as goal

pub returns : goal.returns
returns g c =
    record {
      value =
          rw (← c.self.view_is, ← c.other.view_is)
          (c.cmp_across.ensures.value
          ∙ compared_sets g.T.MaybeBounded.order (g.C.Storage.items c.self.inside.map)
          (g.D.Storage.items c.other.inside.map));
      same =
          let alike =
          held_bound g.T.MaybeBounded.order (g.C.Storage.items c.self.inside.map)
          (g.D.Storage.items c.other.inside.map) in
          rw (← c.self.view_is, ← c.other.view_is)
          (grind arith);
      alike =
          let order = g.T.MaybeBounded.order in
          rw (← c.self.view_is, ← c.other.view_is)
          (λ complete items others stored stored' alike alike'.
          c.cmp_across.ensures.alike complete items others stored stored'
          ((held_bound order (g.C.Storage.items c.self.inside.map) items).0 alike)
          ((held_bound order (g.D.Storage.items c.other.inside.map) others).0 alike')
          ∙ compared_sets order items others);
    }
