use Rattle.std.specs.Io.KnownBytes.{Keeps}
use Rattle.line_program.proofs.read.AnyLineRead.next_bytes.Given as goal

abbrev pub invariant-loop : goal.invariant-loop
invariant-loop g l = Keeps (g.R.Read.remaining l.fn.self) (g.R.Read.remaining l.self)
