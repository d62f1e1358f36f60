use Rattle.line_program.proofs.Listing.{on_ok_as}
use Rattle.tokens.proofs.Machines.{tells_of_line}
use Rattle.tokens.proofs.rules.show_no_rule.Goals as goal

pub returns-in-Some : goal.returns-in-Some
returns-in-Some g c =
    on_ok_as c.writeln.result _ _
    (λ appended. tells_of_line c.args.path.now c.args.number _ _ _ c.in_ok-show_line.ensures (_, tt, appended))
    c.writeln.ensures.bytes

pub returns-in-None : goal.returns-in-None
returns-in-None g c =
    on_ok_as c.write_all.result _ _
    (λ appended. tells_of_line c.args.path.now c.args.number _ _ _ c.in_ok-show_line.ensures (_, tt, appended))
    c.write_all.ensures.bytes
