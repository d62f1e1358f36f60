use Rattle.std.proofs.Common.{◌≡◌, ◌∙◌, sym, ap, ◌∷◌, ◌++◌, [], length, map, arith, append_assoc}
use Rattle.range_bulk.proofs.AppendedLists.{appended_length}
use Rattle.range_bulk.proofs.Common.{common_steps, false≢true, error_has_no_value, length-append, map-append, lower, item_upper, item_of, full_range, le_refl}
use Rattle.range_store.proofs.Moved.{moved_all}
use Rattle.range_bulk.proofs.JoinedItems.{built_more, built_none}
use Rattle.range_bulk.proofs.SortedLists.{sorted_rises}
use Rattle.range_bulk.proofs.sorted.list_of.Goals as goal

pub loop-range-init : goal.loop-range-init
loop-range-init g c =
    let order = g.K.MaybeBounded.order in
    let from = lower order full_range in
    let whole = c.into_iter-range-iterator.ensures.into_iter_gives.0 in
    record {
      parted = whole;
      built = (
        from,
        rw c.in_ok-items.ensures.items (built_none order g.V.PartialEq.eq from),
        rw whole (sorted_rises order g.met.K.PartialEnum.lawful
            (map (item_of g.R.AsRange.range) c.args.pairs.items) c.requires.known
            c.requires.sorted),
      );
      few = omega (arith, ap length c.in_ok-items.ensures.items);
    }

pub loop-range-preserved : goal.loop-range-preserved
loop-range-preserved g c =
    let lawful = g.met.K.PartialEnum.lawful in
    let item = item_of g.R.AsRange.range in
    let was = c.loop-range.invariant in
    let next = c.in-Some.ensures.steps.0 in
    let done = c.loop-range.yielded in
    let pair : g.row.R.Denot × g.row.V.Denot = (c.in-Some.range, c.in-Some.value) in
    let rises = rw next at was.built.2 in
    let end = item_upper g.K.MaybeBounded.order (item pair) in
    record {
      parted =
          append_assoc done (pair ∷ []) c.next.new.self.rest.items
          ∙ (ap (λ rest. done ++ rest) (sym next) ∙ was.parted);
      built = (
        end,
        rw (c.in_ok-push.ensures, c.into_range.ensures, map-append item done (pair ∷ []))
            (built_more lawful g.met.V.Eq.laws was.built.0 end _
            c.loop-range.items.items (item pair) rises.0 rises.1 rises.2 (le_refl lawful _)
            was.built.1),
        rises.3,
      );
      few =
          omega (
            arith,
            was.few,
            ap length c.in_ok-push.ensures,
            appended_length g.K.MaybeBounded.order g.V.PartialEq.eq c.loop-range.items.items
                (record { key = c.into_range.result; value = c.in-Some.value } ∷ []),
            length-append done (pair ∷ []),
          );
    }

pub returns-clause-bound : goal.returns-clause-bound
returns-clause-bound g c =
    let was = c.loop-range.invariant in
    let rest = c.loop-range.range-iterator.rest in
    let none : length rest.items ≡ 0 = omega (arith, rest.ok.0, c.in-None.ensures.steps.0) in
    let all = moved_all c.loop-range.yielded rest.items c.args.pairs.items was.parted none in
    rw all at was.built.1.bound

pub returns-in_err-items : goal.returns-in_err-items
returns-in_err-items g c = grind (arith, common_steps, error_has_no_value, false≢true)

pub returns-in_err-push : goal.returns-in_err-push
returns-in_err-push g c =
    let left = c.from_residual-in_err-push in
    record {
      bound = error_has_no_value _ left.result left.ensures.0;
      form = error_has_no_value _ left.result left.ensures.0;
      few = error_has_no_value _ left.result left.ensures.0;
      none_needed = λ none.
          absurd (omega (
            arith,
            none,
            ap length c.loop-range.invariant.parted,
            ap length c.in-Some.ensures.steps.0,
            length-append c.loop-range.yielded c.loop-range.range-iterator.rest.items,
          ));
    }
