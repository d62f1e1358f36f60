use Rattle.std.proofs.Common.{◌≡◌, ◌∙◌, ap, arith, rules}
use Rattle.range_map.proofs.ExtendedLists.{none_bound_after}
use Rattle.range_handles.proofs.Many.{one_more_bound}
use Rattle.range_handles.proofs.kept_map.KeptMap.bind_each.Goals as goal

pub loop-count-init : goal.loop-count-init
loop-count-init g c =
    record {
      bound = none_bound_after g.K.MaybeBounded.order _ _;
      within = search rules;
    }

pub loop-count-preserved : goal.loop-count-preserved
loop-count-preserved g c =
    let done : c.insert.result ≡ 0 = search rules in
    let entry = c.index-entries-count.result in
    record {
      bound =
          one_more_bound g.K.MaybeBounded.order c.args.entries.now c.loop-count.count entry
          c.loop-count-test.true g.E.Told.told c.args.self.now c.loop-count.self c.insert.new.self
          c.item-key.result (c.item-key.ensures ∙ ap g.E.Told.told c.index-entries-count.is)
          c.loop-count.invariant.bound (c.insert.ensures.bound done);
      within = omega arith;
    }
