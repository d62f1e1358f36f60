use Rattle.std.proofs.Common.{arith}
use Rattle.tokens.proofs.Lists.{some_at}
use Rattle.tokens.proofs.TableLines.{rule_line_is, rules_all, rules_more, rules_none}
use Rattle.tokens.proofs.tables.write_rules.Goals as goal

pub loop-rule-init : goal.loop-rule-init
loop-rule-init g c = λ rules is. rules_none c.args.language.now rules _

pub loop-rule-preserved : goal.loop-rule-preserved
loop-rule-preserved g c = λ rules is.
    let number = c.loop-rule.rule in
    let (rule, there) = some_at rules number (omega (arith, is.counted)) in
    let (line, writes, appended) = c.in_ok-write_rule.ensures in
    rules_more c.args.language.now rules number rule _ _ _ there
    (c.loop-rule.invariant rules is) (
      line,
      rule_line_is c.args.language.now rules _ is number line writes rule there,
      appended,
    )

pub returns : goal.returns
returns g c = λ rules is.
    rules_all c.args.language.now rules c.loop-rule.rule _ _
    (omega (arith, c.loop-rule.auto.rule-end, is.counted)) (c.loop-rule.invariant rules is)
