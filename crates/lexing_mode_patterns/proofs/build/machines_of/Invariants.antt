use Rattle.std.proofs.Common.{◌≡◌}
use Rattle.lexing_modes.specs.Modes.{mode_count}
use Rattle.lexing_mode_patterns.specs.Rules.{HasScannersOf}
use Rattle.lexing_mode_patterns.proofs.build.machines_of.Given as goal

abbrev pub invariant-loop-mode : goal.invariant-loop-mode
invariant-loop-mode l = record {
  count : mode_count l.modes ≡ l.mode;
  scanners : HasScannersOf l.rules l.mode l.modes;
}
