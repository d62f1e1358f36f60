use Rattle.std.proofs.Common.{arith}
use Rattle.std.proofs.lemmas.Result.{err_from_is_err_and}
use Rattle.lexer_handles.proofs.lexer.machine_of.Goals as goal

pub returns-in_err-lexer-clause-refused : goal.returns-in_err-lexer-clause-refused
returns-in_err-lexer-clause-refused c =
    grind (arith, err_from_is_err_and, c.in_err-lexer.ensures.refused c.args.budget)

pub returns-in-Err-TooLarge-clause-refused : goal.returns-in-Err-TooLarge-clause-refused
returns-in-Err-TooLarge-clause-refused c = (
  c.in_ok-lexer.lexer,
  c.in_ok-lexer.ensures.lexer,
  rw c.in-Err-TooLarge.field-0-is at c.in-Err-TooLarge.ensures.refused,
)
