use Rattle.std.proofs.Common.{◌↔◌, ◌⊎◌, ℕ, IsTrue, arith}
use Rattle.lexing_classes.specs.Leads.{Leads, LeadsBy}
use Rattle.lexing_patterns.specs.declared.part.Part.{Part}
use Rattle.lexing_patterns.specs.Parts.{HasEdge, IsAmong}
use Rattle.lexing_classes.proofs.Any.{any-append}
use Rattle.lexing_patterns.proofs.Joining.{either_reads, either_within, has_edge-append, is_among-append}
use Rattle.lexing_patterns.proofs.Sizing.{choice_sized}
use Rattle.lexing_patterns.proofs.part.either.Goals as goal

pub returns : goal.returns
returns c =
    let one = c.args.one in
    let other = c.args.other in
    let both : Part = record {
      leads = c.extend_from_slice.new.self;
      ends = c.extend_from_slice-2.new.self;
      edges = c.extend_from_slice-3.new.self;
      empty = c.if-empty.empty;
    } in
    let leads : (d q : ℕ) → Leads both.leads.items d q
    ↔ (Leads other.leads.items d q ⊎ Leads one.leads.items d q) =
    λ d q. grind (arith, any-append (LeadsBy d q) other.leads.items one.leads.items) in
    let ends : (q : ℕ) → IsAmong q both.ends.items
    ↔ (IsAmong q other.ends.items ⊎ IsAmong q one.ends.items) =
    λ q. grind (arith, is_among-append other.ends.items one.ends.items q) in
    let edges : (p d q : ℕ) → HasEdge both.edges.items p d q
    ↔ (HasEdge other.edges.items p d q ⊎ HasEdge one.edges.items p d q) =
    λ p d q. grind (arith, has_edge-append other.edges.items one.edges.items p d q) in
    record {
      reads = λ low middle high back front.
          either_reads one other both low middle high front back leads ends edges (grind arith);
      within = λ low middle high below above back front.
          either_within one other both low middle high front back leads ends edges (grind arith)
          below above;
      size = λ a b first second. choice_sized one other both a b first second
          (grind arith) (grind arith) (grind arith);
    }
