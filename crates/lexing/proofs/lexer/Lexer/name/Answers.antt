use Rattle.std.proofs.Common.{refl, sym, length}
use Rattle.std.proofs.lemmas.Option.{slice_get_read}
use Rattle.lexing.proofs.lexer.Lexer.name.Goals as goal

pub returns-in-Some : goal.returns-in-Some
returns-in-Some c =
    let kinds = c.deref.result.now in
    let kind = c.in-Some.kind.now in
    let found = c.in-Some.ensures.lookup in
    let there = slice_get_read kinds (length kinds) c.args.rule kind refl found.3.0 found.1 in
    (kind, rw (← c.deref.ensures.value) there, sym c.as_str.ensures.value)
