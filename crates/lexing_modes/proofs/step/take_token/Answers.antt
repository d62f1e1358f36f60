use Rattle.std.proofs.Common.{refl, inl, arith}
use Rattle.lexing_modes.proofs.ModeSteps.{scanner_at}
use Rattle.lexing_modes.proofs.step.take_token.Goals as goal

pub take-requires-clause-token : goal.take-requires-clause-token
take-requires-clause-token g c =
    let entry = c.index.result.now in
    let cursor = c.args.cursor.now in
    let has =
    scanner_at c.args.modes.now.modes.items cursor.mode entry c.requires.state.known
    c.index.ensures in
    let found = rw c.in-Ok-Some.field-0-is at c.in-Ok-Some.ensures.longest in (
      entry.scanner,
      has,
      (c.in-Ok-Some.found.len, rw (← c.range_from.ensures.value) found, refl, refl),
    )

pub returns-in-Ok-None-clause-taken : goal.returns-in-Ok-None-clause-taken
returns-in-Ok-None-clause-taken g c =
    let entry = c.index.result.now in
    let cursor = c.args.cursor.now in
    let has =
    scanner_at c.args.modes.now.modes.items cursor.mode entry c.requires.state.known
    c.index.ensures in
    let none = rw c.in-Ok-None.field-0-is at c.in-Ok-None.ensures.longest in (
      refl,
      refl,
      (entry.scanner, has, (c.requires.more, rw (← c.range_from.ensures.value) none)),
      c.behind_one-cursor.ensures.one,
      (refl, refl),
    )

pub returns-in-Err-clause-taken : goal.returns-in-Err-clause-taken
returns-in-Err-clause-taken g c =
    let entry = c.index.result.now in
    let cursor = c.args.cursor.now in
    let has =
    scanner_at c.args.modes.now.modes.items cursor.mode entry c.requires.state.known
    c.index.ensures in
    (inl (entry.scanner, has, c.in-Err.ensures.refused), omega arith)
