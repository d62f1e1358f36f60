use Rattle.std.proofs.Common.{◌≡◌, ◌∙◌, ap, arith, rules}
use Rattle.range_sets.proofs.Membership.{none_added}
use Rattle.range_handles.proofs.Many.{one_more_added}
use Rattle.range_handles.proofs.kept_set.KeptSet.add_each.Goals as goal

pub loop-count-init : goal.loop-count-init
loop-count-init g c =
    record {
      added = none_added g.K.MaybeBounded.order _;
      within = search rules;
    }

pub loop-count-preserved : goal.loop-count-preserved
loop-count-preserved g c =
    let done : c.insert.result ≡ 0 = search rules in
    let range = c.index-ranges-count.result in
    record {
      added =
          one_more_added g.K.MaybeBounded.order c.args.ranges.now c.loop-count.count range
          c.loop-count-test.true g.E.Told.told c.args.self.now c.loop-count.self c.insert.new.self
          c.item-key.result (c.item-key.ensures ∙ ap g.E.Told.told c.index-ranges-count.is)
          c.loop-count.invariant.added (c.insert.ensures.added done);
      within = omega arith;
    }
