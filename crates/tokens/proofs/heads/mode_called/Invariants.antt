use Rattle.std.proofs.Common.{◌≢◌, ℕ, ◌<◌, Some}
use Rattle.std.specs.List.{slice_get}
use Rattle.tokens.specs.Heads.{texts_of}
use Rattle.tokens.proofs.heads.mode_called.Given as goal

abbrev pub invariant-loop-at : goal.invariant-loop-at
invariant-loop-at l = (i : ℕ) → i < l.at → slice_get (texts_of l.names) i ≢ Some l.name
