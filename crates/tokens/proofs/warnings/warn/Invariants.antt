use Rattle.lexing.specs.declared.lexer.Lexer.{Lexer}
use Rattle.lexing.specs.Tables.{IsTableOf}
use Rattle.tokens.proofs.Warned.{HasWarned}
use Rattle.tokens.proofs.warnings.warn.Given as goal

abbrev pub invariant-loop-at : goal.invariant-loop-at
invariant-loop-at g l = (lexer : Lexer) → IsTableOf lexer l.table.states.items
    → HasWarned lexer l.table.states.items l.path l.rules.numbers.items l.rules.rules.items l.at
    (g.E.Write.contents l.fn.err) (g.E.Write.contents l.err)
