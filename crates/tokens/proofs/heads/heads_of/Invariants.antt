use Rattle.std.proofs.Common.{◌≤◌, ◌^◌, length, map, take}
use Rattle.tokens.specs.Heads.{texts_of}
use Rattle.tokens.proofs.ModeNames.{HasHeads}
use Rattle.tokens.proofs.heads.heads_of.Given as goal

abbrev pub invariant-loop-at : goal.invariant-loop-at
invariant-loop-at l = record {
  heads : HasHeads (texts_of l.lines) (texts_of l.names.items) (take l.at (texts_of l.lines))
      (map (λ numbers. numbers.items) l.modes.items);
  few : length l.names.items ≤ 2 ^ 32;
}
