use Rattle.range_map.proofs.Common.{arith, common_steps, false≢true}
use Rattle.range_map.proofs.BindingAll.{full_binds, bound_is_full, shown_is_free}
use Rattle.range_map.proofs.map.RangeMap.binds_all.Goals as goal

pub returns-in-None-clause-bound : goal.returns-in-None-clause-bound
returns-in-None-clause-bound g c =
    grind (arith, common_steps, full_binds, g.met.K.PartialEnum.lawful)

pub returns : goal.returns
returns g c =
    let items = g.C.Storage.items c.args.self.now in
    let r = g.R.AsRange.range c.args.range in
    let free =
    shown_is_free g.met.K.PartialEnum.lawful items r c.gaps_within-gaps.result _ _
    c.in-Some.ensures.steps c.gaps_within-gaps.ensures.gaps in
    record {
      free = (λ h. absurd (false≢true h), λ none. absurd (none _ free));
      bound = λ h. absurd (false≢true h);
      complete =
          λ complete bound. absurd (bound_is_full g.met.K.PartialEnum.lawful items r complete
          bound _ free);
    }
