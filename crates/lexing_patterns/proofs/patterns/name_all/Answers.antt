use Rattle.std.proofs.Common.{[], false, subst, ◌∙◌, get_or, arith}
use Rattle.std.proofs.lemmas.Option.{slice_get_within}
use Rattle.lexing_patterns.specs.declared.patterns.PatternRule.{PatternRule}
use Rattle.lexing_patterns.proofs.Pouring.{same_both}
use Rattle.lexing_patterns.proofs.Naming.{IsRule, one_more_rule}
use Rattle.lexing_patterns.proofs.patterns.name_all.Goals as goal

pub returns-in_err-add_rule-clause-accepting : goal.returns-in_err-add_rule-clause-accepting
returns-in_err-add_rule-clause-accepting c =
    λ q r. same_both (c.in_err-add_rule.ensures.kept.1 q r) (c.loop-rule.invariant.accepting q r)

pub loop-rule-preserved : goal.loop-rule-preserved
loop-rule-preserved c =
    let added = c.in_ok-add_rule.ensures in
    let was = c.loop-rule.invariant in
    let none : PatternRule = grind arith in record {
      count = omega (arith, added.count, was.count);
      automaton = added.kept.0 ∙ was.automaton;
      accepting = λ q r. same_both (added.kept.1 q r) (was.accepting q r);
      added =
          one_more_rule c.loop-rule.lexer c.add_rule.new.self c.args.rules.now c.loop-rule.rule-index none
          added.kept was.added
          (subst (λ n. IsRule c.add_rule.new.self n (get_or c.args.rules.now c.loop-rule.rule-index none))
          (added.number ∙ was.count) (added.named, added.skips));
    }

pub returns-clause-named : goal.returns-clause-named
returns-clause-named c =
    λ i rule at.
    let within = slice_get_within c.args.rules.now i rule at in
    (c.loop-rule.invariant.added i (omega (arith, within, c.loop-rule-test.false)) rule at).0

pub returns-clause-skips : goal.returns-clause-skips
returns-clause-skips c =
    λ i rule at.
    let within = slice_get_within c.args.rules.now i rule at in
    (c.loop-rule.invariant.added i (omega (arith, within, c.loop-rule-test.false)) rule at).1
