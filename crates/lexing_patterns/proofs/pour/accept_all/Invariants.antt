use Rattle.std.proofs.Common.{ℕ, ◌≡◌, ◌↔◌, take}
use Rattle.lexing.specs.Lexers.{Accepts, rules_in, rule_count}
use Rattle.lexing_patterns.specs.Drafts.{HasEnd, EndsAtOne}
use Rattle.lexing_patterns.proofs.pour.accept_all.Given as goal

abbrev pub invariant-loop-end : goal.invariant-loop-end
invariant-loop-end l = record {
  accepting : EndsAtOne l.ends → ((q r : ℕ) → ¬ Accepts l.initial.lexer q r)
      → (q r : ℕ) → Accepts l.lexer q r ↔ HasEnd (take l.end-index l.ends) q r;
  automaton : rules_in l.lexer ≡ rules_in l.initial.lexer;
  count : rule_count l.lexer ≡ rule_count l.initial.lexer;
}
