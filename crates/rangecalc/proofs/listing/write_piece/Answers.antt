use Rattle.std.proofs.Common.{refl}
use Rattle.std.proofs.lemmas.Result.{on_ok_weaker}
use Rattle.rangecalc.proofs.listing.write_piece.Goals as goal

pub returns-in-Some : goal.returns-in-Some
returns-in-Some g c =
    let span = c.span_between-span.result in rw c.in-Some.is
    (on_ok_weaker c.write_item_line.result
    (λ appended. (_, (span.first, span.last, refl), appended))
    c.write_item_line.ensures)

pub returns-in-None : goal.returns-in-None
returns-in-None g c =
    let span = c.span_between-span.result in rw c.in-None.is
    (on_ok_weaker c.write_free_line.result
    (λ appended. (_, (span.first, span.last, refl), appended))
    c.write_free_line.ensures)
