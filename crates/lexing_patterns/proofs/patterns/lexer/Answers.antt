use Rattle.lexing_patterns.proofs.Promise.{token_is_match}
use Rattle.std.proofs.Common.{arith}
use Rattle.lexing_patterns.proofs.patterns.lexer.Goals as goal

pub returns-in-Ok-clause-tokens : goal.returns-in-Ok-clause-tokens
returns-in-Ok-clause-tokens c =
    let draft = c.in_ok-draft.ensures.drafted in grind (
      arith,
      token_is_match c.in_ok-draft.draft c.in-Ok.lexer draft.0 draft.2.automata c.in-Ok.ensures.poured,
    )

pub returns-in-Ok-clause-taken : goal.returns-in-Ok-clause-taken
returns-in-Ok-clause-taken c =
    let (patterns, read, draft) = c.in_ok-draft.ensures.drafted in (
      patterns,
      record { read = read; taken = draft.taken; few = omega (arith, draft.spent) },
    )
