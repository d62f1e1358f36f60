use Rattle.std.proofs.Common.{◌≡◌, subst}
use Rattle.std.specs.Prelude.{IfOk}
use Rattle.serde_json.specs.View.{view}
use Rattle.range_json.specs.Shapes.{versioned_shape}
use Rattle.range_json.proofs.Writing.{on_ok}
use Rattle.range_map_json.proofs.WritingLoop.{are_written, one_written, writing_begun}
use Rattle.range_map_json.proofs.map.map_to_json.Goals as goal

pub loop-range-init : goal.loop-range-init
loop-range-init g c =
    writing_begun _ _ _ c.iter-items.ensures.items c.in_ok-written.ensures.items

pub loop-range-preserved : goal.loop-range-preserved
loop-range-preserved g c =
    let done = c.in_ok-pair_to_json.ensures in
    one_written c.loop-range.invariant
    (record { key = c.in-Some.range.now; value = c.in-Some.value.now }) c.in_ok-pair_to_json.field-0 c.push.new.self.items c.in-Some.ensures.steps
    done.written done.values c.in_ok-push.ensures.items

pub returns : goal.returns
returns g c =
    let all = are_written c.loop-range.invariant c.in_default.ensures.steps.0 in
    let result = c.versioned.result in
    record {
      written =
          subst (λ ds. IfOk result (λ v. view v ≡ versioned_shape ds)) all.0 c.versioned.ensures;
      values = on_ok result _ all.1;
    }
