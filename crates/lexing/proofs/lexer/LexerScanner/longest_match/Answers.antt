use Rattle.std.proofs.Common.{arith}
use Rattle.lexing.proofs.lexer.LexerScanner.longest_match.Goals as goal

pub returns : goal.returns
returns c = grind (arith, c.longest_match.ensures.longest)
