use Rattle.range_map.proofs.Common.{tied_back, range_clone, range_total, range_of, error_has_no_value, on_error, AreUnboundAfter}
use Rattle.range_map.proofs.InPlace.{none_unbound, one_unbound, all_kept}
use Rattle.range_map.proofs.PartWay.{set_out, one_done, stopped_at_gap, arrived}
use Rattle.range_map.proofs.CloneLists.{clones_tied}
use Rattle.range_map.proofs.map.RangeMap.remove_gaps.Goals as goal

pub loop-gap-init : goal.loop-gap-init
loop-gap-init g c =
    let order = g.K.MaybeBounded.order in
    let same = g.V.PartialEq.eq in
    let items = g.C.Storage.items c.args.self.now in
    record {
      way = set_out (AreUnboundAfter order same items items) c.gaps-gaps.result
          (none_unbound order same items);
      canonical = c.in_form.ensures.canonical;
    }

pub loop-gap-preserved : goal.loop-gap-preserved
loop-gap-preserved g c =
    let order = g.K.MaybeBounded.order in
    let lawful = g.met.K.PartialEnum.lawful in
    let same = g.V.PartialEq.eq in
    let items = g.C.Storage.items in
    let first = items c.args.self.now in
    let before = items c.loop-gap.self in
    let after = items c.remove.new.self in
    let equal =
    clones_tied g.met.K.MaybeBounded.order_is_cmp g.met.K.Ord.matches_eq c.requires.keys in
    let gap = range_of c.in-Some.gap in
    let copy = c.in_ok-cloned.field-0 in
    let alike =
    tied_back (range_total order lawful) gap copy
    (range_clone order lawful g.K.Clone.is_clone equal gap copy c.in_ok-cloned.ensures) in
    record {
      way =
          one_done {Q = AreUnboundAfter order same first after} c.in-Some.ensures.steps
          (λ done split so_far. one_unbound order same lawful first before after done gap copy alike
          so_far c.in_ok-remove.ensures.unbound) c.loop-gap.invariant.way;
      canonical = c.remove.ensures.canonical;
    }

pub returns-clause-bound : goal.returns-clause-bound
returns-clause-bound g c =
    let same = g.V.PartialEq.eq in
    let first = g.C.Storage.items c.args.self.now in
    let now = g.C.Storage.items c.loop-gap.self in
    all_kept g.K.MaybeBounded.order same first now _ c.gaps-gaps.result
    c.gaps-gaps.ensures.once
    (arrived c.in_default.ensures.steps.0 c.loop-gap.invariant.way)

pub returns-in_err-cloned-clause-refused : goal.returns-in_err-cloned-clause-refused
returns-in_err-cloned-clause-refused g c =
    let left = c.from_residual in
    on_error _ left.result (stopped_at_gap c.gaps-gaps.ensures.gaps c.in-Some.ensures.steps
    c.loop-gap.invariant.way)

pub returns-in_err-remove : goal.returns-in_err-remove
returns-in_err-remove g c =
    let left = c.from_residual-in_err-remove in
    record {
      bound = error_has_no_value _ left.result left.ensures.0;
      refused =
          rw c.in_err-remove.ensures.refused (on_error _ left.result
          (stopped_at_gap c.gaps-gaps.ensures.gaps c.in-Some.ensures.steps
          c.loop-gap.invariant.way));
      canonical = c.remove.ensures.canonical;
    }
