use Rattle.range_map.proofs.Common.{rules, MayOverlay}
use Rattle.range_map.proofs.Overlays.{chosen_may, combined_weaker}
use Rattle.range_map.proofs.map.RangeMap.overlaid_by.Goals as goal

pub returns-in-Ok-clause-combined : goal.returns-in-Ok-clause-combined
returns-in-Ok-clause-combined g c =
    combined_weaker g.K.MaybeBounded.order g.V.PartialEq.eq g.W.PartialEq.eq g.V.PartialEq.eq _
    (MayOverlay g.V.Clone.is_clone g.F.Fn c.args.copy) _ _ _ (λ left right answer is.
    chosen_may g.V.Clone.is_clone g.F.Fn c.args.copy left right answer
    (rw (← is.shows, ← is.other_shows) (let says = is.says in search rules))) c.in-Ok.ensures.bound
