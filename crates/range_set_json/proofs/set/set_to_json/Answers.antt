use Rattle.std.proofs.Common.{ap, ◌∙◌}
use Rattle.serde_json.specs.Data.{array}
use Rattle.serde_json.specs.View.{items_of}
use Rattle.serde_json.proofs.Views.{view-Array}
use Rattle.range_json.specs.Values.{IsRangeValue}
use Rattle.range_json.proofs.Writing.{by_ranges}
use Rattle.range_map_json.proofs.WritingLoop.{are_written, one_written, writing_begun}
use Rattle.range_set_json.proofs.set.set_to_json.Goals as goal

pub returns : goal.returns
returns g c =
    let all = are_written c.loop-range.invariant c.in_default.ensures.steps.0 in
    record {
      written = view-Array c.loop-range.written ∙ ap (λ ds. array (items_of ds)) all.0;
      values =
          by_ranges (IsRangeValue g.T.Json.is_value) (g.C.Storage.items c.args.set.now) all.1;
    }

pub loop-range-init : goal.loop-range-init
loop-range-init g c =
    writing_begun _ _ _ c.iter-ranges.ensures.ranges c.in_ok-written.ensures.items

pub loop-range-preserved : goal.loop-range-preserved
loop-range-preserved g c =
    let done = c.in_ok-range_to_json.ensures in
    one_written c.loop-range.invariant c.in-Some.range.now c.in_ok-range_to_json.field-0 c.push.new.self.items
    c.in-Some.ensures.steps done.written done.values c.in_ok-push.ensures.items
