use Rattle.std.specs.Prelude.{IfSome}
use Rattle.line_program.proofs.Progress.{HasAnswered}
use Rattle.line_program.proofs.program.answer_lines.Given as goal

abbrev pub invariant-loop : goal.invariant-loop
invariant-loop g l =
    IfSome (g.R.Read.remaining l.fn.input)
    (λ bytes. HasAnswered g.P.LineProgram.answers l.fn.program bytes (g.R.Read.remaining l.input)
    (g.W.Write.contents l.fn.out) (g.W.Write.contents l.out) l.program)
