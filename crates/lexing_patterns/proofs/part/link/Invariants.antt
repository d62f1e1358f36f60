use Rattle.std.proofs.Common.{ℕ, ◌≡◌, ◌↔◌, ◌⊎◌, take}
use Rattle.lexing_classes.specs.Leads.{Leads}
use Rattle.lexing_patterns.specs.Parts.{HasEdge}
use Rattle.lexing_patterns.proofs.part.link.Given as goal

abbrev pub invariant-loop-lead : goal.invariant-loop-lead
invariant-loop-lead l = (p c q : ℕ) → HasEdge l.edges.items p c q
    ↔ (HasEdge l.initial.edges.items p c q
    ⊎ ((p ≡ l.from) × Leads (take l.lead-index l.leads) c q))
