use Rattle.range_edit.proofs.Common.{common_steps, ◌-◌, length, refl, ap, ◌∙◌, arith, slice_get, rank_or_len, seam_border, flipped_bound, ℕ, ◌≡◌}
use Rattle.range_edit.specs.Borders.{run_length}
use Rattle.range_edit.proofs.Planned.{planned_fits}
use Rattle.range_edit.proofs.RangeSides.{replaced}
use Rattle.range_edit.proofs.Freeing.{seam_stands}
use Rattle.range_edit.proofs.SidePlans.{IsPlan, plan_run}
use Rattle.range_edit.proofs.SpelledChanges.{replaced_keeps_spelling}
use Rattle.range_edit.proofs.replace.replace.Given.{Over}
use Rattle.range_edit.proofs.replace.replace.Goals.{After-run_start}
use Rattle.range_edit.proofs.replace.replace.Goals as goal

-- how the run is divided between the items that join and those that are cut
plan_is_replacement : (g : Over) (c : After-run_start g) {size : ℕ}
    → size ≡ run_length c.args.ends.now (record { before = c.joined_left-before.result; after = c.joined_right-after.result })
    → IsPlan g.K.MaybeBounded.order g.V.PartialEq.eq g.met.K.PartialEnum.lawful g.met.V.Eq.laws
    (g.C.Storage.is_good c.args.stored.now) (g.C.Storage.rank c.args.stored.now)
    (g.C.Storage.items c.args.stored.now) c.args.range (rank_or_len
    (g.C.Storage.rank c.args.stored.now) (length (g.C.Storage.items c.args.stored.now))
    c.args.ends.now.window.from) c.args.ends.now.window.count c.args.middle.items
    c.args.ends.now.first c.args.ends.now.last (seam_border c.joined_left-before.result
    c.args.ends.now.first (flipped_bound c.args.range.start)) (seam_border
    c.joined_right-after.result c.args.ends.now.last (flipped_bound c.args.range.end))
    c.run_start.result size
plan_is_replacement g c size =
    let order = g.K.MaybeBounded.order in
    let lawful = g.met.K.PartialEnum.lawful in
    let known = c.requires.ends.window.known in
    let is_first = c.first.ensures.value ∙ ap (λ xs. slice_get xs 0) c.deref.ensures.value in
    let is_last = c.last.ensures.value ∙ ap (λ xs. slice_get xs (length xs - 1))
    c.deref-2.ensures.value in
    plan_run lawful g.met.V.Eq.laws (g.met.C.Storage.good_is_in_range c.args.stored.now)
    c.requires.ends (seam_stands order _ _ c.args.range.start lawful known.0 refl)
    (seam_stands order _ _ c.args.range.end lawful known.1 refl) c.run_start.ensures size
    c.requires.middle c.requires.within (rw is_first at c.joined_left-before.ensures)
    (rw is_last at c.joined_right-after.ensures)

pub run_length-requires-clause-fits : goal.run_length-requires-clause-fits
run_length-requires-clause-fits g c =
    let at = goal.at.run_length-requires-clause-fits g c in
    let plan = plan_is_replacement g at.After-run_start refl in
    omega (arith, plan.ends, plan.within, g.met.C.Storage.length_fits c.args.stored.now)

pub change_to-requires : goal.change_to-requires
change_to-requires g c =
    let plan = plan_is_replacement g (goal.at.change_to-requires g c).After-run_start
    c.run_length.ensures in
    let fit = planned_fits plan c.reserve.ensures.positions c.reserve.ensures.list in
    record {
      left = rw (c.seam-left.ensures, c.flip_bound.ensures, c.into_bounds-start.ensures.start)
          fit.left_good;
      right = rw (c.seam-right.ensures, c.flip_bound-2.ensures, c.into_bounds-start.ensures.end)
          fit.right_good;
      good = fit.good;
      in_range = fit.in_range;
      space = grind (arith, common_steps);
    }

pub returns : goal.returns
returns g c =
    let plan = plan_is_replacement g (goal.at.returns g c).After-run_start c.run_length.ensures in
    let left = plan.left in
    let right = plan.right in
    let fit = planned_fits plan c.reserve.ensures.positions c.reserve.ensures.list in
    let done = c.change_to.ensures left.at right.end left.rest right.rest left.start right.finish
    (rw (c.seam-left.ensures, c.flip_bound.ensures, c.into_bounds-start.ensures.start) fit.on_left)
    (rw (c.seam-right.ensures, c.flip_bound-2.ensures, c.into_bounds-start.ensures.end)
    fit.on_right) (rw (
      c.seam-left.ensures,
      c.seam-right.ensures,
      c.flip_bound.ensures,
      c.flip_bound-2.ensures,
      c.into_bounds-start.ensures.start,
      c.into_bounds-start.ensures.end,
    )
    plan.joined) in
    let new = g.C.Storage.items c.change_to.new.stored in
    let made = rw c.reserve.ensures.list at done in
    let window = c.requires.ends.window in
    let lawful = g.met.K.PartialEnum.lawful in
    let equal = g.met.V.Eq.laws in
    record {
      ok = replaced lawful equal window left.side right.side new made c.requires.middle;
      spelled = replaced_keeps_spelling lawful equal window.stored c.requires.ends
          (g.met.C.Storage.good_is_in_range c.args.stored.now) c.joined_left-before.result
          c.joined_right-after.result plan new made;
      refused = tt;
      none_put = λ none. refl;
    }

pub run_start-requires : goal.run_start-requires
run_start-requires g c = grind (arith, common_steps)

pub returns-in_err-reserve-clause-none_put : goal.returns-in_err-reserve-clause-none_put
returns-in_err-reserve-clause-none_put g c = grind (arith, common_steps)

pub joined_left-before-requires-clause-within : goal.joined_left-before-requires-clause-within
joined_left-before-requires-clause-within g c = grind (arith, common_steps)

pub joined_right-after-requires-clause-within : goal.joined_right-after-requires-clause-within
joined_right-after-requires-clause-within g c = grind (arith, common_steps)
