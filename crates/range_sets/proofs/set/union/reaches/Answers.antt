use Rattle.std.proofs.Common.{◌↔◌, IsTrue, rules, sym}
use Rattle.range_keys.specs.Position.{bound_of, start_position, position_cmp}
use Rattle.range_algebra.specs.Intervals.{Le}
use Rattle.range_algebra.specs.Cuts.{lower}
use Rattle.range_sets.proofs.Uniting.{reaches_turned, all_reach}
use Rattle.range_sets.proofs.set.union.reaches.Goals as goal

pub returns-in-Some-flip : goal.returns-in-Some-flip
returns-in-Some-flip g c =
    let order = g.T.MaybeBounded.order in
    let turned =
    reaches_turned g.met.T.PartialEnum.lawful (bound_of c.args.end) (bound_of c.in-Some-flip.past)
    c.args.range.now (sym c.in-Some-flip.ensures) in
    let le : IsTrue c.le.result ↔ Le (position_cmp order.cmp) (lower order c.args.range.now)
    (start_position order (bound_of c.in-Some-flip.past)) = search rules in
    (λ h. turned.0 (le.0 h), λ h. le.1 (turned.1 h))

pub returns-in-None-flip : goal.returns-in-None-flip
returns-in-None-flip g c =
    let reached =
    all_reach g.met.T.PartialEnum.lawful (bound_of c.args.end) c.args.range.now c.requires
    (sym c.in-None-flip.ensures) in
    (λ _. reached, λ _. search rules)
