use Rattle.range_map.proofs.Common.{common_steps, ◌≡◌, ◌∙◌, Result, Ok, Err, ap, arith, refl, false≢true, rules, LieBefore, appended, error_has_no_value, on_error}
use Rattle.std.specs.Result.{IsErrAnd}
use Rattle.range_bulk.specs.declared.append.NotAppended.{NotAppended}
use Rattle.range_bulk.specs.declared.append.NotAppended.TheVariants.{Memory}
use Rattle.range_bulk.specs.Appending.{IsOutOfOrder}
use Rattle.range_bulk.proofs.AppendedLists.{appended_binds, appended_length, appended_stored}
use Rattle.range_map.proofs.StoredLists.{stored_canonical}
use Rattle.range_map.proofs.map.RangeMap.append.Goals as goal

-- an error that is of memory is none of the order
memory_is_in_order : {A : Type 0} (r : Result A NotAppended) → IsErrAnd r (λ e. e ≡ Memory)
    → IsErrAnd r IsOutOfOrder → ⊥
memory_is_in_order (Ok a) memory fault = absurd memory
memory_is_in_order (Err e) memory fault = absurd (rw memory at fault)

pub returns-in_err-reserve : goal.returns-in_err-reserve
returns-in_err-reserve g c =
    let left = c.from_residual in
    record {
      out_of_order = (
        λ fault. absurd (memory_is_in_order left.result left.ensures.1 fault),
        λ not. absurd (not (c.lies_before.ensures.0 (search rules))),
      );
      bound = error_has_no_value _ left.result left.ensures.0;
      list = error_has_no_value _ left.result left.ensures.0;
      emptied = error_has_no_value _ left.result left.ensures.0;
      canonical = rw c.reserve.ensures.list (stored_canonical g.met.K.PartialEnum.lawful g.met.V.Eq.laws _ c.self.invariant);
      few = rw (← c.self.view_is, c.reserve.ensures.list) (omega arith);
      succeeds = λ before enough.
          absurd (false≢true (c.in_err-reserve.ensures.succeeds
          (rw (← c.self.view_is, ← c.other.view_is, ← c.len.ensures) at enough)));
      refused = on_error _ left.result (rw (← c.self.view_is) c.reserve.ensures.list);
      other_refused = on_error _ left.result refl;
    }

pub invariant_of-self-2 : goal.invariant_of-self-2
invariant_of-self-2 g c =
    grind (arith, common_steps, appended_stored, g.met.K.PartialEnum.lawful, g.met.V.Eq.laws)

pub returns : goal.returns
returns g c =
    let order = g.K.MaybeBounded.order in
    let lawful = g.met.K.PartialEnum.lawful in
    let same = g.V.PartialEq.eq in
    let items = g.C.Storage.items c.self.inside.stored in
    let others = g.D.Storage.items c.other.inside.stored in
    let before : LieBefore order items others =
    rw (c.self.view_is, c.other.view_is) (c.lies_before.ensures.0 (search rules)) in
    let whole : g.C.Storage.items c.move_all.new.stored ≡ appended order same items others =
    c.move_all.ensures.list ∙ c.move_first.ensures.list
    ∙ ap (λ xs. appended order same xs others) c.reserve.ensures.list in
    let form = invariant_of-self-2 g c in
    record {
      out_of_order = search rules;
      bound =
          rw (← c.self.view_is, ← c.other.view_is, whole) (appended_binds lawful
          g.met.V.Eq.laws items others c.self.invariant c.other.invariant before);
      list = search rules;
      emptied = search rules;
      canonical = stored_canonical lawful g.met.V.Eq.laws _ form;
      few =
          rw (← c.self.view_is, ← c.other.view_is, whole) (appended_length order same items others);
      succeeds = λ before enough. refl;
      refused = search rules;
      other_refused = search rules;
    }
