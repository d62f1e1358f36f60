use Rattle.tokens.proofs.Written.{name_found}
use Rattle.tokens.proofs.printing.name_of.Goals as goal

pub returns-in-Some : goal.returns-in-Some
returns-in-Some c =
    name_found c.args.modes.now c.args.found c.in-Some.machine.now c.lexer.result.now c.name.result
    c.in-Some.ensures c.lexer.ensures c.name.ensures
