use Rattle.range_map.proofs.Common.{AnyRange, Item, IsWithout, error_has_no_value, on_error}
use Rattle.range_map.proofs.InPlace.{none_without, one_without}
use Rattle.range_map.proofs.PartWay.{set_out, one_done, stopped}
use Rattle.range_map.proofs.map.RangeMap.remove_each.Goals as goal

pub loop-range-init : goal.loop-range-init
loop-range-init g c =
    let order = g.K.MaybeBounded.order in
    let same = g.V.PartialEq.eq in
    let items = g.C.Storage.items c.args.self.now in
    record {
      way = rw c.iter-items.ensures.items
          (set_out (λ front. IsWithout order same items front items) _
          (none_without order same items));
      canonical = c.in_form.ensures.canonical;
    }

pub loop-range-preserved : goal.loop-range-preserved
loop-range-preserved g c =
    let order = g.K.MaybeBounded.order in
    let same = g.V.PartialEq.eq in
    let items = g.C.Storage.items in
    let first = items c.args.self.now in
    let before = items c.loop-range.self in
    let after = items c.remove.new.self in
    let item : Item (AnyRange g.row.K.Denot) g.row.W.Denot =
    record { key = c.in-Some.range.now; value = c.in-Some.field-0-1.now } in
    record {
      way =
          one_done {Q = λ front. IsWithout order same first front after} c.in-Some.ensures.steps
          (λ done split so_far. one_without order same g.met.K.PartialEnum.lawful first before after
          done item so_far c.in_ok-remove.ensures.unbound) c.loop-range.invariant.way;
      canonical = c.remove.ensures.canonical;
    }

pub returns-in_err-remove-clause-bound : goal.returns-in_err-remove-clause-bound
returns-in_err-remove-clause-bound g c =
    error_has_no_value _ c.from_residual.result c.from_residual.ensures.0

pub returns-in_err-remove-clause-refused : goal.returns-in_err-remove-clause-refused
returns-in_err-remove-clause-refused g c =
    rw c.in_err-remove.ensures.refused (on_error _ c.from_residual.result
    (stopped c.in-Some.ensures.steps c.loop-range.invariant.way))
