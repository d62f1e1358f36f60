use Rattle.std.proofs.Common.{◌≡◌, ◌∙◌, ◌||◌, ap, ℕ, OnOk, arith}
use Rattle.std.specs.BTreeSet.{contains}
use Rattle.std.specs.List.{list_any}
use Rattle.std.specs.Map.Iter.{TakesFirst, deref}
use Rattle.std.specs.Ordering.{nat_cmp, eq_by_cmp}
use Rattle.std.proofs.lemmas.Iterator.Adapters.{fact_from_extend}
use Rattle.std.proofs.lemmas.Iterator.Consumers.{YieldsList-from_rest}
use Rattle.std.proofs.lemmas.Map.Iter.{rest_more, rest_all}
use Rattle.charmoves.specs.Automata.{rules_of, HasRule}
use Rattle.charmoves.proofs.Gathering.{gathered_more, gathered_all, also_targets}
use Rattle.charmoves.proofs.moves.Moves.step.Goals as goal

pub loop-state-preserved-in-Continue-1 : goal.loop-state-preserved-in-Continue-1
loop-state-preserved-in-Continue-1 c =
    let before = c.loop-state.reached in
    let targets = c.in-Some-targets.targets.now in
    let grown : OnOk c.extend.result
    ((q : ℕ)
    → contains nat_cmp c.extend.new.self q
    ≡ (contains nat_cmp before q || contains nat_cmp targets q)) =
    fact_from_extend {steps = TakesFirst deref}
    {all = targets.keys} deref c.extend.result c.extend.ensures.ran
    (λ it b. YieldsList-from_rest targets.keys b.0)
    (λ xs e h q. h.0 q
    ∙ ap (λ ks. contains nat_cmp before q || list_any (eq_by_cmp nat_cmp q) ks) e) in
    let turn = rest_more deref _ _ _ _ c.in-Some.is c.next.ensures.steps in
    λ q.
    let led = rw c.in-Some-targets.is at (c.targets.ensures q) in
    gathered_more (λ p. HasRule (rules_of c.args.self.now) p c.args.c q) c.args.states.now.keys _ _
    c.in-Some.state.now _ _ turn (also_targets _ _ _ led ((rw c.in_ok-extend.was at grown) q))
    (c.loop-state.invariant q)

pub loop-state-preserved : goal.loop-state-preserved
loop-state-preserved c =
    let turn = rest_more deref _ _ _ _ c.in-Some.is c.next.ensures.steps in
    λ q.
    gathered_more (λ p. HasRule (rules_of c.args.self.now) p c.args.c q) c.args.states.now.keys _ _
    c.in-Some.state.now _ _ turn (grind (arith, c.in_default.not-Some, c.targets.ensures q))
    (c.loop-state.invariant q)

pub returns : goal.returns
returns c = record {
  reached = λ q.
      gathered_all (λ p. HasRule (rules_of c.args.self.now) p c.args.c q) c.args.states.now.keys _ _
      (rest_all deref _ _ _ c.in-None.is c.next.ensures.steps) (c.loop-state.invariant q);
}
