use Rattle.std.proofs.Common.{eq-eqb, eqb-true, arith}
use Rattle.std.proofs.lemmas.Str.Pattern.{starts_char}
use Rattle.tokens.proofs.RuleLines.{nothing_of, nothing_empty}
use Rattle.tokens.proofs.lines.says_nothing.Goals as goal

pub returns-then-is_empty : goal.returns-then-is_empty
returns-then-is_empty c =
    grind (arith, nothing_empty, eqb-true)

pub returns-else-is_empty : goal.returns-else-is_empty
returns-else-is_empty c =
    grind (arith, nothing_of, eq-eqb, starts_char)
