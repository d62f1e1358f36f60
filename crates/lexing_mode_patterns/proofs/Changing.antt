-- Changes that are set, one rule after the other.
use Rattle.std.proofs.Common.{◌≡◌, ◌∙◌, ap, inl, inr, ℕ, ◌+◌, ◌<◌, List, length, get_or, take, Some, arith}
use Rattle.std.specs.List.{slice_get}
use Rattle.std.proofs.lemmas.List.{take_more, length-take-le}
use Rattle.std.proofs.lemmas.Option.{slice_get_within}
use Rattle.lexing.specs.declared.machine.Machine.{Machine}
use Rattle.lexing_modes.specs.declared.modes.Modes.{Modes}
use Rattle.lexing_modes.specs.Modes.{ChangesOnly}
use Rattle.lexing_modes.proofs.StateSteps.{slice_get-push}
use Rattle.lexing_mode_patterns.specs.declared.rules.ModeRule.{ModeRule}
use Rattle.lexing_mode_patterns.specs.Rules.{HasChangesIn}

-- one rule more does what it says
pub set_more : (held : List ModeRule) (at mode : ℕ) (rule : ModeRule) (before after : Modes Machine)
    → at < length held → HasChangesIn (take at held) mode before
    → ChangesOnly before after mode at (get_or held at rule).change
    → HasChangesIn (take (at + 1) held) mode after
set_more held at mode rule before after within was only i other stands =
    let more = take_more held at rule within in
    let len = length-take-le at held (omega (arith, within)) in
    elim ((slice_get-push (take at held) (get_or held at rule) i other).0 (rw more at stands)) [
      | inl front ↦
          let inside = slice_get_within (take at held) i other front in
          only.others mode i (λ both. omega (arith, inside, len, both.1)) ∙ was i other front
      | inr (last, is) ↦
          let same : i ≡ at = omega (arith, last, len) in
          rw same (only.changed ∙ ap (λ r. r.change) is)
    ]
