use Rattle.lexing_modes.proofs.ModeSteps.{left_out_of, scanner_at}
use Rattle.lexing_modes.proofs.step.is_left_out.Goals as goal

pub returns : goal.returns
returns g c =
    let modes = c.args.modes.now in
    let found = c.args.found.now in
    let entry = c.index.result.now in
    left_out_of g.S.Scanner.lexer modes found entry.scanner c.is_skipped.result
    (scanner_at modes.modes.items found.mode entry c.requires c.index.ensures)
    c.is_skipped.ensures
