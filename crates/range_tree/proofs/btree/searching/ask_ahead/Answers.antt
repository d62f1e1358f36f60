use Rattle.std.proofs.Common.{◌≡◌, ◌+◌, ◌-◌, ◌<◌, ◌≤◌, true, false, count_by, length, arith, ap, ◌∙◌}
use Rattle.range_tree.proofs.Front.{told}
use Rattle.range_tree.proofs.btree.searching.ask_ahead.Given.{Over}
use Rattle.range_tree.proofs.btree.searching.ask_ahead.Goals as goal
use Rattle.range_tree.proofs.btree.searching.ask_ahead.Goals.{After-ask}

-- what the answer tells of how many pass
tells : (g : Over) (c : After-ask g)
    → (c.args.end - 1 + 1 ≤ count_by (g.P.Probe.test c.args.probe.now) c.args.items.now
    → c.ask.result ≡ true)
    × (count_by (g.P.Probe.test c.args.probe.now) c.args.items.now ≤ c.args.end - 1
    → c.ask.result ≡ false)
tells g c =
    let within : c.args.end - 1 < length c.args.items.now =
    omega (arith, c.requires.some, c.requires.within) in
    told (g.P.Probe.test c.args.probe.now) c.args.items.now (c.args.end - 1)
    c.index-items-end.result c.requires.falls within c.ask.result
    (c.ask.ensures.answer ∙ ap (g.P.Probe.test c.args.probe.now) c.index-items-end.is)

pub returns-clause-passes : goal.returns-clause-passes
returns-clause-passes g c more =
    grind (arith, tells)

pub returns-clause-fails : goal.returns-clause-fails
returns-clause-fails g c less =
    grind (arith, tells)
