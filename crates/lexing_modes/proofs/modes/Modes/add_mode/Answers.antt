use Rattle.std.proofs.Common.{arith}
use Rattle.lexing_modes.proofs.ModeSteps.{changes_pushed, last_scanner, scanners_pushed}
use Rattle.lexing_modes.proofs.modes.Modes.add_mode.Goals as goal

pub returns-in_err-push-clause-scanners : goal.returns-in_err-push-clause-scanners
returns-in_err-push-clause-scanners g c = λ mode scanner has.
    rw c.in_err-push.ensures.items has

pub returns-clause-scanner : goal.returns-clause-scanner
returns-clause-scanner g c =
    last_scanner c.args.self.now.modes.items c.push.new.self.items
    (record { scanner = c.args.scanner; changes = c.new.result }) c.in-Ok.number
    c.in_ok-push.ensures.items (omega (arith, c.in-Ok.ensures))

pub returns-clause-scanners : goal.returns-clause-scanners
returns-clause-scanners g c =
    scanners_pushed c.args.self.now.modes.items c.push.new.self.items
    (record { scanner = c.args.scanner; changes = c.new.result }) c.in_ok-push.ensures.items

pub returns-clause-changes : goal.returns-clause-changes
returns-clause-changes g c =
    changes_pushed c.args.self.now.modes.items c.push.new.self.items
    (record { scanner = c.args.scanner; changes = c.new.result }) c.in_ok-push.ensures.items
    c.new.ensures.empty
