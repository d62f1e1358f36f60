use Rattle.std.proofs.Common.{List}
use Rattle.lexing_patterns.specs.declared.patterns.PatternRule.{PatternRule}
use Rattle.lexing_mode_patterns.specs.Rules.{IsOfRules}
use Rattle.tokens.proofs.TableLines.{HasRuleLines}
use Rattle.tokens.proofs.tables.write_rules.Given as goal

abbrev pub invariant-loop-rule : goal.invariant-loop-rule
invariant-loop-rule g l = (rules : List PatternRule)
    → IsOfRules rules l.lexer
    → HasRuleLines l.language rules l.rule (g.W.Write.contents l.fn.out) (g.W.Write.contents l.out)
