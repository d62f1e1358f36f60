use Rattle.std.proofs.Common.{◌≡◌}
use Rattle.lexing_modes.specs.Modes.{KeepsScanners, mode_count}
use Rattle.lexing_mode_patterns.specs.Rules.{HasChangesOf}
use Rattle.lexing_mode_patterns.proofs.build.set_changes.Given as goal

abbrev pub invariant-loop-mode : goal.invariant-loop-mode
invariant-loop-mode l = record {
  set : HasChangesOf l.rules l.mode l.modes;
  count : mode_count l.modes ≡ mode_count l.fn.modes;
  scanners : KeepsScanners l.fn.modes l.modes;
}
