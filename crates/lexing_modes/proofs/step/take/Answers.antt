use Rattle.lexing_modes.specs.Modes.{mode_count}
use Rattle.lexing_modes.specs.States.{state_of}
use Rattle.lexing_modes.proofs.StateSteps.{state_behind}
use Rattle.lexing_modes.proofs.TokenLists.{token_boundary}
use Rattle.lexing_modes.proofs.step.take.Goals as goal

pub returns-in-Ok-clause-state : goal.returns-in-Ok-clause-state
returns-in-Ok-clause-state g c =
    let modes = c.args.modes.now in
    let text = c.args.text.now in
    let before = c.args.cursor.now in
    let token = c.args.token in
    state_behind (mode_count modes) text c.change_after.result (state_of before)
    (state_of c.change.new.self) token.end c.requires.state c.in-Ok.ensures.changed
    (λ next names.
    modes.known before.mode token.rule next (rw c.change_after.ensures at names))
    (token_boundary g.S.Scanner.lexer modes text before.mode before.place token
    c.requires.state.boundary.0 c.requires.token)
