use Rattle.std.proofs.Common.{ℕ, ◌↔◌, ◌⊎◌, take}
use Rattle.lexing_classes.specs.Leads.{Leads}
use Rattle.lexing_patterns.specs.Parts.{HasEdge, IsAmong}
use Rattle.lexing_patterns.proofs.part.link_all.Given as goal

abbrev pub invariant-loop-state : goal.invariant-loop-state
invariant-loop-state l = (p c q : ℕ) → HasEdge l.edges.items p c q
    ↔ (HasEdge l.initial.edges.items p c q
    ⊎ (IsAmong p (take l.state-index l.states) × Leads l.leads c q))
