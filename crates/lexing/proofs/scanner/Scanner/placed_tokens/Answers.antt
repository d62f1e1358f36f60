use Rattle.lexing.proofs.Giving.{given_by_calls, placed_by_calls}
use Rattle.lexing.proofs.scanner.Scanner.placed_tokens.Goals as goal

pub returns-clause-whole : goal.returns-clause-whole
returns-clause-whole g c = λ items last calls.
    let made = c.new.ensures in
    let lexer = g.Self.Scanner.lexer in
    let refuses = g.Self.Scanner.may_refuse in
    let given =
    given_by_calls lexer refuses _ c.new.result last (placed_by_calls lexer refuses items c.new.result last calls) in
    rw (made.scanner, made.text, made.start) at given
