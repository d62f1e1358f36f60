use Rattle.std.proofs.Common.{refl}
use Rattle.lexing_modes.proofs.ModeSteps.{last_scanner}
use Rattle.lexing_modes.proofs.modes.Modes.new.Goals as goal

pub returns-clause-scanner : goal.returns-clause-scanner
returns-clause-scanner g c =
    last_scanner c.new-modes.result.items c.push.new.self.items
    (record { scanner = c.args.scanner; changes = c.new.result }) 0 c.in_ok-push.ensures.items
    (rw c.new-modes.ensures.items refl)
