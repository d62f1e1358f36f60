use Rattle.range_runs.proofs.RunItems.{found_onward}
use Rattle.range_map.proofs.inner.onward.onward_from.Goals as goal

pub returns : goal.returns
returns g c =
    rw (← c.map.view_is, c.new.ensures)
    (found_onward g.met.K.PartialEnum.lawful g.met.V.Eq.laws _ _ _ c.map.invariant c.args.key
    c.known.ensures _ _ c.find-first.ensures.found)
