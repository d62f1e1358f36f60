use Rattle.line_program.specs.Listing.{Writes}
use Rattle.tokens.specs.Counts.{IsCounted}
use Rattle.tokens.proofs.Written.{text_as}
use Rattle.tokens.proofs.count.serve_counts.Goals as goal

pub returns-in-Ok-clause-counted : goal.returns-in-Ok-clause-counted
returns-in-Ok-clause-counted g c =
    text_as (g.R.Read.remaining c.args.input)
    (λ bytes. Writes (g.W.Write.contents c.args.out.now) (g.W.Write.contents c.print_counts.new.out)
    (IsCounted c.args.printer.now.modes.now bytes c.in-Ok.is_whole)) c.in_ok-text.text.now
    (rw (c.in_ok-text.ensures.text, c.deref.ensures.value) c.in_ok-bytes.ensures.bytes)
    c.in-Ok.ensures.counted
