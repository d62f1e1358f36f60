use Rattle.lexing.specs.MachineSteps.{lexer_of}
use Rattle.line_program.proofs.Listing.{on_ok_as}
use Rattle.tokens.proofs.rules.warn_of_one.Goals as goal

pub returns-in_ok-table-in-Some-clause-one : goal.returns-in_ok-table-in-Some-clause-one
returns-in_ok-table-in-Some-clause-one g c = λ one.
    let machine = c.in-Some.machine.now in
    let is = c.in_ok-table-in-Some.ensures in
    on_ok_as c.warn.result _ _
    (λ written. (machine, c.in_ok-table-in-Some.table.states.items, c.in-Some.ensures, is, written))
    (c.warn.ensures (lexer_of machine) is)
