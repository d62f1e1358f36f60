use Rattle.range_edit.proofs.Common.{common_steps, arith, refl}
use Rattle.range_edit.proofs.Planned.{planned_fits, planned_size}
use Rattle.range_edit.proofs.RangeSides.{inserted, one_inside}
use Rattle.range_edit.proofs.SidePlans.{plan_one}
use Rattle.range_edit.proofs.free.put_merged.Goals as goal

pub run_length-requires-clause-fits : goal.run_length-requires-clause-fits
run_length-requires-clause-fits g c =
    let plan = plan_one g.met.K.PartialEnum.lawful g.met.V.Eq.laws
    (g.met.C.Storage.good_is_in_range c.args.stored.now) c.requires.ends
    c.requires.left c.requires.right c.run_start.ensures refl c.requires.before c.requires.after in
    omega (arith, plan.ends, plan.within, g.met.C.Storage.length_fits c.args.stored.now)

pub change-requires : goal.change-requires
change-requires g c =
    let plan = plan_one g.met.K.PartialEnum.lawful g.met.V.Eq.laws
    (g.met.C.Storage.good_is_in_range c.args.stored.now) c.requires.ends
    c.requires.left c.requires.right c.run_start.ensures c.run_length.ensures c.requires.before
    c.requires.after in
    let fit = planned_fits plan c.reserve.ensures.positions c.reserve.ensures.list in
    record {
      left = fit.left_good;
      right = fit.right_good;
      good = fit.good;
      in_range = fit.in_range;
      space = grind (arith, common_steps);
    }

pub returns-in-Ok : goal.returns-in-Ok
returns-in-Ok g c =
    let lawful = g.met.K.PartialEnum.lawful in
    let equal = g.met.V.Eq.laws in
    let plan = plan_one lawful equal (g.met.C.Storage.good_is_in_range c.args.stored.now)
    c.requires.ends c.requires.left c.requires.right c.run_start.ensures
    c.run_length.ensures c.requires.before c.requires.after in
    let left = plan.left in
    let right = plan.right in
    let fit = planned_fits plan c.reserve.ensures.positions c.reserve.ensures.list in
    let made = rw c.reserve.ensures.list at (c.change.ensures.list left.at right.end left.rest
    right.rest left.start right.finish fit.on_left fit.on_right plan.joined) in
    record {
      ok = inserted lawful equal c.requires.ends.window left.side right.side _
          (rw (one_inside c.args.item left.start right.finish) made) c.args.item.value
          c.args.item.value refl (equal.refl _) (λ e. refl);
      few = omega (arith, planned_size plan c.requires.ends _ _ made);
      given = tt;
      refused = tt;
      succeeds = λ enough. refl;
    }
