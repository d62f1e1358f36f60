use Rattle.std.proofs.Common.{◌≡◌, ◌<◌, length}
use Rattle.line_program.specs.Pieces.{Reads}
use Rattle.line_program.proofs.pieces.read_on.Given as goal

abbrev pub invariant-loop : goal.invariant-loop
invariant-loop g l = record {
  some : 0 < length l.chunk;
  room : length l.chunk ≡ length l.fn.chunk;
  read : Reads (g.R.Read.remaining l.fn.input) (g.R.Read.remaining l.input) l.fn.bytes.items
      l.bytes.items;
}
