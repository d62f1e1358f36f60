use Rattle.std.proofs.Common.{vec_len}
use Rattle.lexing.proofs.states.States.drop.Given as goal

abbrev pub decreases-loop-row : goal.decreases-loop-row
decreases-loop-row l = vec_len l.rows
