use Rattle.range_map.proofs.Common.{tied_back, range_clone, range_total, AnyRange, Item, IsOverlaid, error_has_no_value, on_error}
use Rattle.range_map.proofs.InPlace.{none_over, one_over}
use Rattle.range_map.proofs.PartWay.{set_out, one_done, stopped}
use Rattle.range_map.proofs.CloneLists.{clones_tied}
use Rattle.range_map.proofs.map.RangeMap.insert_each.Goals as goal

pub loop-range-init : goal.loop-range-init
loop-range-init g c =
    let order = g.K.MaybeBounded.order in
    let same = g.V.PartialEq.eq in
    let items = g.C.Storage.items c.args.self.now in
    record {
      way = rw c.iter-items.ensures.items
          (set_out (λ front. IsOverlaid order same items front items) _
          (none_over order same items));
      canonical = c.in_form.ensures.canonical;
    }

pub loop-range-preserved : goal.loop-range-preserved
loop-range-preserved g c =
    let order = g.K.MaybeBounded.order in
    let lawful = g.met.K.PartialEnum.lawful in
    let same = g.V.PartialEq.eq in
    let items = g.C.Storage.items in
    let first = items c.args.self.now in
    let after = items c.insert.new.self in
    let others = g.D.Storage.items c.args.other.now in
    let equal =
    clones_tied g.met.K.MaybeBounded.order_is_cmp g.met.K.Ord.matches_eq c.requires.keys in
    let range = c.in-Some.range.now in
    let copy = c.in_ok-clone.field-0 in
    let alike =
    tied_back (range_total order lawful) range copy
    (range_clone order lawful g.K.Clone.is_clone equal range copy c.in_ok-clone.ensures.cases) in
    let value = c.in-Some.value.now in
    let put = c.in_ok-clone-2.field-0 in
    let item : Item (AnyRange g.row.K.Denot) g.row.V.Denot =
    record { key = range; value = value } in
    record {
      way =
          one_done {Q = λ front. IsOverlaid order same first front after} c.in-Some.ensures.steps
          (λ done split so_far. one_over order same lawful g.met.V.Eq.laws others
          (rw (← c.iter-items.ensures.items) c.iter-items.ensures.canonical.stored) done c.next.new.self item
          split first (items c.loop-range.self) after copy put alike
          (c.requires.values value put c.in_ok-clone-2.ensures.cases) so_far
          c.in_ok-insert.ensures.bound) c.loop-range.invariant.way;
      canonical = c.insert.ensures.canonical;
    }

pub returns-in_err-clone-clause-refused : goal.returns-in_err-clone-clause-refused
returns-in_err-clone-clause-refused g c =
    let left = c.from_residual in
    on_error _ left.result (stopped c.in-Some.ensures.steps c.loop-range.invariant.way)

pub returns-in_err-clone-2 : goal.returns-in_err-clone-2
returns-in_err-clone-2 g c =
    let left = c.from_residual-in_err-clone-2 in
    record {
      bound = error_has_no_value _ left.result left.ensures.0;
      refused =
          on_error _ left.result (stopped c.in-Some.ensures.steps c.loop-range.invariant.way);
      canonical = c.loop-range.invariant.canonical;
    }

pub returns-in_err-insert : goal.returns-in_err-insert
returns-in_err-insert g c =
    let left = c.from_residual-in_err-insert in
    record {
      bound = error_has_no_value _ left.result left.ensures.0;
      refused =
          rw c.in_err-insert.ensures.refused (on_error _ left.result
          (stopped c.in-Some.ensures.steps c.loop-range.invariant.way));
      canonical = c.insert.ensures.canonical;
    }
