use Rattle.range_edit.proofs.Common.{refl, arith}
use Rattle.range_edit.proofs.Planned.{planned_fits, planned_size}
use Rattle.range_edit.proofs.RangeSides.{none_inside, removed}
use Rattle.range_edit.proofs.SidePlans.{plan_none}
use Rattle.range_edit.proofs.unbind.unbind_cutting.Goals as goal

pub returns : goal.returns
returns g c =
    let lawful = g.met.K.PartialEnum.lawful in
    let equal = g.met.V.Eq.laws in
    let plan = plan_none lawful equal (g.met.C.Storage.good_is_in_range c.args.stored.now)
    c.requires.ends (rw c.start.ensures at c.in_ok-left.ensures.seam)
    (rw c.end.ensures at c.in_ok-right.ensures.seam) c.run_start.ensures c.run_length.ensures refl
    refl in
    let fit = planned_fits plan {is_good' = g.C.Storage.is_good c.args.stored.now}
    {rank' = g.C.Storage.rank c.args.stored.now} (λ p h. (h, refl)) refl in
    let left = plan.left in
    let right = plan.right in
    let done = c.change.ensures.list left.at right.end left.rest right.rest left.start right.finish
    fit.on_left fit.on_right plan.joined in
    record {
      ok = removed lawful equal c.requires.ends.window left.side right.side _
          (rw (none_inside {V = g.row.V.Denot} left.start right.finish) done) refl;
      few = omega (arith, c.requires.some, planned_size plan c.requires.ends _ _ done);
      refused = tt;
      space = c.change.ensures.space;
      succeeds = λ keys. refl;
    }
