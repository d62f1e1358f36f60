use Rattle.line_program.specs.Listing.{Writes}
use Rattle.tokens.specs.Printing.{IsPrinted}
use Rattle.tokens.proofs.Written.{text_as}
use Rattle.tokens.proofs.serve.serve.Goals as goal

pub returns-in-Ok-clause-printed : goal.returns-in-Ok-clause-printed
returns-in-Ok-clause-printed g c =
    text_as (g.R.Read.remaining c.args.input)
    (λ bytes. Writes (g.W.Write.contents c.args.out.now) (g.W.Write.contents c.print_tokens.new.out)
    (IsPrinted c.args.printer.now.modes.now c.args.printer.now.form bytes c.in-Ok.is_whole)) c.in_ok-text.text.now
    (rw (c.in_ok-text.ensures.text, c.deref.ensures.value) c.in_ok-bytes.ensures.bytes)
    c.in-Ok.ensures.printed
