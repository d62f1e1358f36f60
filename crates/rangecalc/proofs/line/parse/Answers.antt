use Rattle.std.proofs.Common.{◌∷◌, ◌∙◌, [], ap, sym}
use Rattle.rangecalc.specs.Lines.{letter, words_of}
use Rattle.line_program.proofs.Listing.{append_nil}
use Rattle.rangecalc.proofs.line.parse.Goals as goal

pub returns-in-Some-whole-clause-read : goal.returns-in-Some-whole-clause-read
returns-in-Some-whole-clause-read g c = (
  [],
  c.in-Some.ensures ∙ ap (λ rest. letter c.in-Some.name ∷ 32 ∷ rest)
      (c.in-Some-whole.ensures ∙ sym (append_nil (words_of c.in-Some-whole.command))),
)
