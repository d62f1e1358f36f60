use Rattle.std.proofs.Common.{◌≡◌, ◌↔◌, ◌⊎◌, ℕ, ◌+◌, ◌++◌, IsTrue, length, arith}
use Rattle.regex_hir.specs.Meaning.{meaning}
use Rattle.lexing_patterns.specs.Built.{IsBuilt}
use Rattle.lexing_patterns.specs.Drafts.{HasEnd}
use Rattle.lexing_classes.specs.Leads.{Leads}
use Rattle.lexing_patterns.specs.Parts.{HasEdge, IsAmong}
use Rattle.lexing_classes.proofs.Any.{any-push}
use Rattle.std.proofs.lemmas.Result.{err_from_is_err_and}
use Rattle.lexing_patterns.proofs.Drafting.{one_more_drafted}
use Rattle.lexing_patterns.proofs.Totals.{all_pushed, fault_behind, start_behind, total_pushed}
use Rattle.lexing_patterns.proofs.Joining.{has_edge-append}
use Rattle.lexing_patterns.proofs.draft.Draft.add.Goals as goal

pub returns-clause-added : goal.returns-clause-added
returns-clause-added c =
    λ res number was.
    let part = c.in_ok-part.part in
    let old = c.args.self.now in
    let start = c.in_ok-start.start in
    let at = c.in_ok-start.ensures.new in
    let next : start + 1 ≡ c.state.new.self.next = omega (arith, at.0, at.1) in
    let automata =
    one_more_drafted old.edges.items c.link.new.edges.items old.starts.items
    c.push.new.self.items old.ends.items c.add_ends.new.ends.items res (meaning c.args.hir.now) part
    old.builder.next start was.automata (rw at.0 c.in_ok-part.ensures.built)
    (rw at.0 c.in_ok-part.ensures.grows)
    (λ p d q. grind (
      arith,
      has_edge-append old.edges.items part.edges.items p d q,
      c.in_ok-link.ensures p d q,
    ))
    (λ p. any-push (λ (state : ℕ). p ≡ state) _ _ _ c.in_ok-push.ensures.items)
    (λ q r. grind (arith, c.in_ok-states.ensures.members q, c.in_ok-add_ends.ensures q r)) in
    record {
      automata = rw (← next) automata;
      taken = all_pushed res (meaning c.args.hir.now) was.taken c.in_ok-part.ensures.built.taken;
      spent = omega (
        arith,
        was.spent,
        total_pushed res (meaning c.args.hir.now),
        c.in_ok-part.ensures.spent,
        c.in_ok-start.ensures.spent,
      );
    }

pub returns-in_err-part-clause-refused : goal.returns-in_err-part-clause-refused
returns-in_err-part-clause-refused c = λ res is.
    let p = err_from_is_err_and c.from_residual.result c.from_residual.ensures.1 in
    rw (p.1, p.2)
    (fault_behind c.args.self.now.builder.budget res (meaning c.args.hir.now) is.spent _
    c.in_err-part.ensures.refused)

pub returns-in_err-start-clause-refused : goal.returns-in_err-start-clause-refused
returns-in_err-start-clause-refused c = λ res is.
    let p = err_from_is_err_and c.from_residual-in_err-start.result c.from_residual-in_err-start.ensures.1 in
    rw (p.1, p.2)
    (start_behind c.args.self.now.builder.budget c.part.new.self.budget res
    (meaning c.args.hir.now) is.spent c.in_ok-part.ensures.spent _ c.in_err-start.ensures.refused)
