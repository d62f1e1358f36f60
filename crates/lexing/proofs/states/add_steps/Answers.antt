use Rattle.lexing.proofs.Growing.{steps_none, steps_push}
use Rattle.lexing.proofs.states.add_steps.Goals as goal

pub loop-byte-init : goal.loop-byte-init
loop-byte-init c = steps_none c.args.row.now c.args.steps.now.items

pub loop-byte-preserved : goal.loop-byte-preserved
loop-byte-preserved c =
    steps_push c.args.row.now c.loop-byte.byte c.args.steps.now.items c.loop-byte.steps.items
    c.push.new.self.items c.in-Some.step c.loop-byte.invariant c.in-Some.ensures
    c.in_ok-push.ensures.items
