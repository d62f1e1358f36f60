use Rattle.std.proofs.Common.{sym, arith}
use Rattle.std.specs.Map.Iter.{deref}
use Rattle.std.proofs.lemmas.Map.Iter.{rest_more, rest_all}
use Rattle.charmoves.specs.Automata.{rules_of, HasRule}
use Rattle.charmoves.proofs.Adding.{leads_also}
use Rattle.charmoves.proofs.Gathering.{gathered_more, gathered_all}
use Rattle.charmoves.proofs.moves.Moves.leads.Goals as goal

pub loop-state-preserved-in-Some-get : goal.loop-state-preserved-in-Some-get
loop-state-preserved-in-Some-get c =
    λ d q is.
    let turn = rest_more deref _ _ _ _ c.in-Some.is c.next.ensures.steps in
    let more =
    leads_also _ c.in-Some-get.more.now d q (sym c.in-Some-get.ensures.value)
    (c.in_ok-leads.ensures.pairs d is q) in
    gathered_more (λ p. HasRule (rules_of c.args.self.now) p d q) c.args.states.now.keys _ _
    c.in-Some.state.now _ _ turn more (c.loop-state.invariant d q is)

pub loop-state-preserved : goal.loop-state-preserved
loop-state-preserved c =
    λ d q is.
    let turn = rest_more deref _ _ _ _ c.in-Some.is c.next.ensures.steps in
    let none = c.in_default.not-Some in
    gathered_more (λ p. HasRule (rules_of c.args.self.now) p d q) c.args.states.now.keys _ _
    c.in-Some.state.now _ _ turn (grind (arith, none)) (c.loop-state.invariant d q is)

pub returns : goal.returns
returns c = record {
  leads = λ d q is.
      gathered_all (λ p. HasRule (rules_of c.args.self.now) p d q) c.args.states.now.keys _ _
      (rest_all deref _ _ _ c.in-None.is c.next.ensures.steps) (c.loop-state.invariant d q is);
}
