use Rattle.std.proofs.Common.{◌≡◌, refl, length, Some, arith}
use Rattle.std.specs.List.{slice_get}
use Rattle.std.proofs.lemmas.Option.{slice_get_read, slice_get_within}
use Rattle.lexing.proofs.lexer.LexerScanner.is_skipped.Goals as goal

pub returns-in-Some : goal.returns-in-Some
returns-in-Some c =
    let kinds = c.deref.result.now in
    let kind = c.in-Some.kind.now in
    let found = c.in-Some.ensures.lookup in
    let there : slice_get c.args.self.now.kinds.items c.args.rule ≡ Some kind =
    rw (← c.deref.ensures.value)
    (slice_get_read kinds (length kinds) c.args.rule kind refl found.3.0 found.1) in (
      λ skipped. (kind, there, skipped),
      λ (other, at, skipped). let same : kind ≡ other = cc in rw same skipped,
    )

pub returns-in-None : goal.returns-in-None
returns-in-None c = grind (arith, slice_get_within)
