use Rattle.std.proofs.Common.{refl}
use Rattle.std.proofs.Math.Logic.{∥∥₁_elim, ∥∥₁_prop}
use Rattle.std.proofs.Props.{props}
use Rattle.std.proofs.lemmas.Iterator.{YieldsList-from_chars}
use Rattle.state_sets.proofs.Reading.{read_more}
use Rattle.lexing.proofs.Running.{some_state, there_more, there_none}
use Rattle.lexing.proofs.Settled.{nowhere_when_stuck}
use Rattle.lexing.proofs.machine.Machine.leads_on.Goals as goal

pub loop-c-init : goal.loop-c-init
loop-c-init c =
    let machine = c.args.self.now in
    record {
      state = ∥∥₁_elim machine.sound (hlevel props) (some_state machine);
      there = ∥∥₁_elim machine.sound ∥∥₁_prop (λ sound. ∣ there_none machine sound ∣₁);
    }

pub loop-c-preserved : goal.loop-c-preserved
loop-c-preserved c =
    record {
      state = c.in-Some-next.ensures.known;
      there = ∥∥₁_elim c.loop-c.invariant.there ∥∥₁_prop
          (λ was. ∣ there_more c.args.self.now c.loop-c.yielded c.in-Some.c c.loop-c.state
          c.in-Some-next.next c.in-Some-next.ensures.goes was ∣₁);
    }

pub returns-in-None-next : goal.returns-in-None-next
returns-in-None-next c =
    let text = c.args.text.now in
    let read = c.loop-c.yielded in
    let all = YieldsList-from_chars text c.utf8.text cc in
    let (rest, split) =
    read_more all read _ c.loop-c.yielded_by _ _ c.in-Some.c c.in-Some.is c.next.ensures.steps in
    λ _. nowhere_when_stuck c.args.self.now text read rest c.in-Some.c c.loop-c.state split
    c.in-None-next.ensures.goes c.loop-c.invariant.there
