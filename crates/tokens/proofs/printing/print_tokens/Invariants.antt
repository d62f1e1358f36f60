use Rattle.std.proofs.Common.{◌≡◌, true}
use Rattle.lexing.specs.Places.{place_at}
use Rattle.tokens.proofs.Written.{HasPrinted}
use Rattle.tokens.proofs.printing.print_tokens.Given as goal

abbrev pub invariant-loop-next : goal.invariant-loop-next
invariant-loop-next g l = record {
  here : l.place ≡ place_at l.text l.at;
  printed : HasPrinted l.printer.modes.now l.printer.form l.text l.is_whole l.yielded
      (g.W.Write.contents l.fn.out) (g.W.Write.contents l.out);
  silent : l.is_whole ≡ true → l.err ≡ l.fn.err;
}
