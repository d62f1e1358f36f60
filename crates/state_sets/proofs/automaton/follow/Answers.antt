use Rattle.std.proofs.Common.{arith}
use Rattle.std.proofs.lemmas.Iterator.{YieldsList-from_chars}
use Rattle.state_sets.proofs.Leading.{after_more}
use Rattle.state_sets.proofs.Reading.{read_all}
use Rattle.state_sets.proofs.automaton.follow.Goals as goal

pub loop-c-init : goal.loop-c-init
loop-c-init g c = λ q. grind (arith, c.in_ok-states.ensures.starts q)

pub loop-c-preserved : goal.loop-c-preserved
loop-c-preserved g c =
    after_more _ _ c.loop-c.yielded c.loop-c.states c.in_ok-states-2.states c.in-Some.c
    c.loop-c.invariant c.in_ok-states-2.ensures.reached

pub returns : goal.returns
returns g c =
    let all = YieldsList-from_chars c.args.text.now c.utf8.text cc in
    let whole =
    read_all all c.loop-c.yielded _ c.loop-c.yielded_by _ _ c.in-None.is c.next.ensures.steps in
    record { after = rw (← whole) c.loop-c.invariant }
