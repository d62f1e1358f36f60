use Rattle.range_map.proofs.Common.{Ok, Err, refl, false≢true, bound_clone, IsUpdated, error_has_no_value, not_both, on_error, on_ok, updated_stands}
use Rattle.range_map.proofs.ClosureAnswers.{memory_is_no_closure}
use Rattle.range_map.proofs.Likeness.{clone_empty, updated_too, answers_too}
use Rattle.range_edit.proofs.MergedItems.{unchanged_stands}
use Rattle.range_edit.proofs.SpelledChanges.{list_keeps_spelling}
use Rattle.range_map.proofs.ReboundKeys.{update_rebinds}
use Rattle.range_map.proofs.StoredLists.{stored_canonical}
use Rattle.range_map.proofs.CloneLists.{clones_tied}
use Rattle.range_map.proofs.map.RangeMap.update.Goals as goal

pub update_pieces-requires-clause-nonempty : goal.update_pieces-requires-clause-nonempty
update_pieces-requires-clause-nonempty g c =
    let alike =
    bound_clone g.K.MaybeBounded.order g.met.K.PartialEnum.lawful g.K.Clone.is_clone
    (clones_tied g.met.K.MaybeBounded.order_is_cmp g.met.K.Ord.matches_eq c.requires.keys) in
    λ empty.
    not_both c.if-is_empty.false (c.is_empty.ensures.by_position.1
    (clone_empty g.met.K.PartialEnum.lawful (g.R.AsRange.range c.args.range)
    c.in_ok-range.range (alike _ _ c.in_ok-range.ensures.start)
    (alike _ _ c.in_ok-range.ensures.end) empty))

pub update_pieces-requires-clause-bound : goal.update_pieces-requires-clause-bound
update_pieces-requires-clause-bound g c = rw c.self.view_is c.requires.bound

pub returns : goal.returns
returns g c =
    let order = g.K.MaybeBounded.order in
    let lawful = g.met.K.PartialEnum.lawful in
    let r = g.R.AsRange.range c.args.range in
    let s = c.in_ok-range.range in
    let alike =
    bound_clone order lawful g.K.Clone.is_clone
    (clones_tied g.met.K.MaybeBounded.order_is_cmp g.met.K.Ord.matches_eq c.requires.keys) in
    let start = alike _ _ c.in_ok-range.ensures.start in
    let end = alike _ _ c.in_ok-range.ensures.end in
    let items = g.C.Storage.items c.self.inside.stored in
    let new = g.C.Storage.items c.update_pieces.new.stored in
    let same = g.V.PartialEq.eq in
    let done =
    on_ok _ (IsUpdated order same g.F.Fn c.args.f items new r) c.update_pieces.result
    (updated_too lawful r s start end same g.F.Fn c.args.f items new) c.update_pieces.ensures.ok in
    record {
      updated = rw (← c.self.view_is) (on_ok _ _ c.update_pieces.result (λ h _. h) done);
      rebound =
          rw (← c.self.view_is) (on_ok _ _ c.update_pieces.result
          (update_rebinds lawful g.met.V.Eq.laws g.F.Fn c.args.f items new r) done);
      kept =
          rw (← c.self.view_is) (on_ok _ _ c.update_pieces.result
          (updated_stands order same g.met.V.Eq.laws g.F.Fn c.args.f items new r) done);
      spelled = rw (← c.self.view_is) c.update_pieces.ensures.spelled;
      canonical = stored_canonical lawful g.met.V.Eq.laws _ c.update_pieces.ensures.form;
      closure =
          λ e failed. rw (← c.self.view_is)
          (answers_too lawful r s start end same g.F.Fn c.args.f items (Err e)
          (c.update_pieces.ensures.closure e failed));
      memory =
          λ never failed. let said = c.update_pieces.ensures.memory failed in
          rw (← c.self.view_is) (
            said.0,
            answers_too lawful r s start end same g.F.Fn c.args.f items (Ok said.0) said.1,
          );
      refused = rw (← c.self.view_is) c.update_pieces.ensures.refused;
      empty = λ e. absurd (not_both c.if-is_empty.false (c.is_empty.ensures.by_position.1 e));
      empty_unchanged =
          λ e. absurd (not_both c.if-is_empty.false (c.is_empty.ensures.by_position.1 e));
    }

pub returns-then-is_empty-clause-kept : goal.returns-then-is_empty-clause-kept
returns-then-is_empty-clause-kept g c = unchanged_stands g.K.MaybeBounded.order g.V.PartialEq.eq _ _

pub returns-then-is_empty-clause-spelled : goal.returns-then-is_empty-clause-spelled
returns-then-is_empty-clause-spelled g c =
    list_keeps_spelling g.met.K.PartialEnum.lawful g.met.V.Eq.laws c.in_form.ensures.stored

pub returns-in_err-range : goal.returns-in_err-range
returns-in_err-range g c =
    let left = c.from_residual in
    record {
      updated = error_has_no_value _ left.result left.ensures.0;
      rebound = error_has_no_value _ left.result left.ensures.0;
      kept = error_has_no_value _ left.result left.ensures.0;
      spelled = error_has_no_value _ left.result left.ensures.0;
      canonical = c.in_form.ensures.canonical;
      closure = λ e failed. absurd (memory_is_no_closure left.result e left.ensures.1 failed);
      memory = λ never failed. absurd (false≢true (c.in_err-range.ensures.succeeds never));
      refused = on_error _ left.result refl;
      empty = λ e. absurd (not_both c.if-is_empty.false (c.is_empty.ensures.by_position.1 e));
      empty_unchanged = λ _. refl;
    }
