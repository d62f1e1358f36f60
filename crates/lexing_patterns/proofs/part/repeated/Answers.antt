use Rattle.std.proofs.Common.{◌↔◌, ◌⊎◌, ℕ, IsTrue, arith}
use Rattle.lexing_classes.specs.Leads.{Leads}
use Rattle.lexing_patterns.specs.Parts.{HasEdge, IsAmong}
use Rattle.lexing_patterns.proofs.Joining.{loop_reads}
use Rattle.lexing_patterns.proofs.part.repeated.Goals as goal

pub returns : goal.returns
returns c =
    let part = c.args.part in
    let edges : (p d q : ℕ) → HasEdge c.link_all.new.edges.items p d q
    ↔ (HasEdge part.edges.items p d q ⊎ (IsAmong p part.ends.items × Leads part.leads.items d q)) =
    λ p d q. grind (arith, c.in_ok-link_all.ensures p d q) in
    record {
      reads = loop_reads (Leads part.leads.items) (HasEdge part.edges.items)
          (HasEdge c.link_all.new.edges.items) (λ q. IsAmong q part.ends.items)
          (IsTrue part.empty) edges;
      within = λ low high is. record {
        leads = is.leads;
        ends = is.ends;
        edges = λ p d q h.
            grind (arith, edges p d q, is.edges p d q, is.ends p, is.leads d q);
      };
      size = λ a is. record { leads = is.leads; ends = is.ends; nullable = is.nullable };
    }
