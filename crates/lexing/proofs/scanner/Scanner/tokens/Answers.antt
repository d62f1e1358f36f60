use Rattle.lexing.proofs.Giving.{given_by_calls}
use Rattle.lexing.proofs.scanner.Scanner.tokens.Goals as goal

pub returns-clause-whole : goal.returns-clause-whole
returns-clause-whole g c = λ items last calls.
    let made = c.new.ensures in
    let given =
    given_by_calls g.Self.Scanner.lexer g.Self.Scanner.may_refuse items c.new.result last calls in
    rw (made.scanner, made.text, made.start) at given
