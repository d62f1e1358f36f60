use Rattle.std.proofs.Common.{◌≡◌, ℕ, take}
use Rattle.lexing_modes.specs.Modes.{KeepsScanners, change_after, mode_count}
use Rattle.lexing_mode_patterns.specs.Rules.{HasChangesIn}
use Rattle.lexing_mode_patterns.proofs.build.set_changes_in.Given as goal

abbrev pub invariant-loop-at : goal.invariant-loop-at
invariant-loop-at l = record {
  set : HasChangesIn (take l.at l.held) l.mode l.modes;
  others : (m r : ℕ) → ¬ (m ≡ l.mode) → change_after l.modes m r ≡ change_after l.fn.modes m r;
  count : mode_count l.modes ≡ mode_count l.fn.modes;
  scanners : KeepsScanners l.fn.modes l.modes;
}
