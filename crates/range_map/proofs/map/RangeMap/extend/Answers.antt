use Rattle.range_map.proofs.Common.{arith, common_steps, rules, error_has_no_value, on_error, ◌∷◌, [], map, map-append, item_of}
use Rattle.range_map.proofs.ExtendedLists.{none_bound_after, one_bound_after}
use Rattle.range_map.proofs.map.RangeMap.extend.Goals as goal

pub loop-range-init : goal.loop-range-init
loop-range-init g c = grind (arith, common_steps, none_bound_after)

pub loop-range-preserved : goal.loop-range-preserved
loop-range-preserved g c =
    let items = g.C.Storage.items in
    let range = g.R.AsRange.range in
    let was = c.loop-range.invariant in
    let more =
    one_bound_after g.K.MaybeBounded.order g.V.PartialEq.eq (items c.args.self.now)
    (items c.loop-range.self) (items c.insert.new.self) (map (item_of range) c.loop-range.yielded)
    (range c.in-Some.range) c.in-Some.value was.bound c.in_ok-insert.ensures.bound in
    record {
      can = (c.in-Some.ensures.goes.on was.ends).0;
      ends = (c.in-Some.ensures.goes.on was.ends).1;
      bound =
          rw (map-append (item_of range) c.loop-range.yielded
          ((c.in-Some.range, c.in-Some.value) ∷ [])) more;
      canonical = c.insert.ensures.canonical;
    }

pub returns-in_err-insert-clause-bound : goal.returns-in_err-insert-clause-bound
returns-in_err-insert-clause-bound g c =
    error_has_no_value _ c.from_residual.result c.from_residual.ensures.0

pub returns-in_err-insert-clause-refused : goal.returns-in_err-insert-clause-refused
returns-in_err-insert-clause-refused g c =
    on_error _ c.from_residual.result (
      c.into_iter-range-iterator.result,
      c.loop-range.yielded,
      (c.in-Some.range, c.in-Some.value),
      c.next.new.self,
      c.into_iter-range-iterator.ensures.into_iter_gives,
      (c.loop-range.range-iterator, search rules, search rules),
      λ empty. absurd (search (rules, c.insert.ensures.empty empty)),
      rw c.in_err-insert.ensures.refused c.loop-range.invariant.bound,
    )
