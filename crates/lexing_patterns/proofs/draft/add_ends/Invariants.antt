use Rattle.std.proofs.Common.{ℕ, ◌≡◌, ◌↔◌, ◌⊎◌, take}
use Rattle.lexing_patterns.specs.Drafts.{HasEnd}
use Rattle.lexing_patterns.specs.Parts.{IsAmong}
use Rattle.lexing_patterns.proofs.draft.add_ends.Given as goal

abbrev pub invariant-loop-state : goal.invariant-loop-state
invariant-loop-state l = (q r : ℕ) → HasEnd l.ends.items q r
    ↔ (HasEnd l.initial.ends.items q r
    ⊎ (IsAmong q (take l.state-index l.states) × (r ≡ l.rule)))
