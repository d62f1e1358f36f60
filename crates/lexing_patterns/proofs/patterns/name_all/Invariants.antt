use Rattle.std.proofs.Common.{ℕ, ◌≡◌, ◌<◌, ◌↔◌, IsTrue, Some}
use Rattle.std.specs.List.{slice_get}
use Rattle.lexing.specs.Lexers.{Accepts, IsNameOf, IsSkipped, rules_in, rule_count}
use Rattle.lexing_patterns.specs.declared.patterns.PatternRule.{PatternRule}
use Rattle.lexing_patterns.proofs.patterns.name_all.Given as goal

abbrev pub invariant-loop-rule : goal.invariant-loop-rule
invariant-loop-rule l = record {
  count : rule_count l.lexer ≡ l.rule-index;
  automaton : rules_in l.lexer ≡ rules_in l.initial.lexer;
  accepting : (q r : ℕ) → Accepts l.lexer q r ↔ Accepts l.initial.lexer q r;
  added : (i : ℕ) → i < l.rule-index → (rule : PatternRule) → slice_get l.rules i ≡ Some rule
      → IsNameOf l.lexer i rule.name.now × (IsSkipped l.lexer i ↔ IsTrue rule.skipped);
}
