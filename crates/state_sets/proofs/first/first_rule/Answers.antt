use Rattle.std.proofs.Common.{sym, arith}
use Rattle.std.proofs.lemmas.Grind.{common_steps}
use Rattle.std.specs.Map.Iter.{deref}
use Rattle.std.proofs.lemmas.Map.Iter.{rest_more, rest_all}
use Rattle.state_sets.proofs.Firsts.{first_more, first_of_all}
use Rattle.state_sets.proofs.first.first_rule.Goals as goal

pub loop-state-preserved-in-Some-get : goal.loop-state-preserved-in-Some-get
loop-state-preserved-in-Some-get c =
    let turn = rest_more deref _ _ _ _ c.in-Some.is c.next.ensures.steps in
    let least = c.lesser.ensures in
    first_more _ _ _ _ _ _ turn c.loop-state.invariant c.in-Some-get.rule.now c.lesser.result
    (sym c.in-Some-get.ensures.value) least.below least.least least.one

pub loop-state-preserved : goal.loop-state-preserved
loop-state-preserved c =
    grind arith

pub returns : goal.returns
returns c =
    let all = rest_all deref _ _ _ c.in-None.is c.next.ensures.steps in
    first_of_all c.args.rule_at.now c.args.states.now c.loop-state.first _ all
    c.loop-state.invariant
