use Rattle.std.proofs.Common.{◌↔◌, ◌⊎◌, ℕ, ◌++◌, IsTrue, arith}
use Rattle.lexing_classes.specs.Leads.{Leads}
use Rattle.lexing_patterns.specs.declared.part.Part.{Part}
use Rattle.lexing_patterns.specs.Parts.{HasEdge, IsAmong}
use Rattle.lexing_patterns.proofs.Joining.{turn_reads, turn_within, has_edge-append}
use Rattle.lexing_patterns.proofs.Sizing.{turn_sized}
use Rattle.lexing_patterns.proofs.part.in_turn.Goals as goal

pub returns : goal.returns
returns c =
    let front = c.args.front in
    let back = c.args.back in
    let both : Part = record {
      leads = c.in_ok-leads.leads;
      ends = c.in_ok-ends.ends;
      edges = c.link_all.new.edges;
      empty = c.if-front.empty;
    } in
    let leads : (d q : ℕ) → Leads both.leads.items d q
    ↔ (Leads front.leads.items d q ⊎ (IsTrue front.empty × Leads back.leads.items d q)) =
    λ d q. rw (← c.deref-5.ensures.value) (c.in_ok-leads.ensures.members d q) in
    let ends : (q : ℕ) → IsAmong q both.ends.items
    ↔ (IsAmong q back.ends.items ⊎ (IsTrue back.empty × IsAmong q front.ends.items)) =
    λ q. rw (← c.deref-4.ensures.value) (c.in_ok-ends.ensures.members q) in
    let edges : (p d q : ℕ) → HasEdge both.edges.items p d q
    ↔ ((HasEdge back.edges.items p d q ⊎ HasEdge front.edges.items p d q)
    ⊎ (IsAmong p front.ends.items × Leads back.leads.items d q)) =
    λ p d q.
    let old = has_edge-append back.edges.items front.edges.items p d q in
    grind (arith, c.in_ok-link_all.ensures p d q) in
    let empty : IsTrue c.if-front.empty ↔ (IsTrue front.empty × IsTrue back.empty) = grind arith in
    record {
      reads = λ low middle high of_back of_front.
          turn_reads front back both low middle high of_front of_back leads ends edges empty;
      within = λ low middle high below above of_back of_front.
          turn_within front back both low middle high of_front of_back leads ends edges empty below
          above;
      size = λ a b of_front of_back. turn_sized front back both a b of_front of_back
          (grind arith) (grind arith) (grind arith);
    }
