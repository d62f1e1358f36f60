use Rattle.std.proofs.Common.{◌≡◌, refl, [], get_or, arith}
use Rattle.line_program.proofs.Listing.{appends_none}
use Rattle.lexing.specs.Lexers.{rule_count}
use Rattle.tokens.proofs.CountLines.{lines_more}
use Rattle.tokens.proofs.count.write_counts.Goals as goal

pub loop-rule-init : goal.loop-rule-init
loop-rule-init g c = λ numbers are. ([], refl, appends_none _)

pub loop-rule-preserved : goal.loop-rule-preserved
loop-rule-preserved g c = λ numbers are.
    lines_more c.args.lexer.now numbers c.loop-rule.rule (get_or c.args.counts.now c.loop-rule.rule 0)
    _ _ _ (are c.loop-rule.rule (omega arith)) (c.loop-rule.invariant numbers are)
    c.in_ok-write_count.ensures

pub returns : goal.returns
returns g c = λ numbers many are.
    let ended : c.loop-rule.rule ≡ rule_count c.args.lexer.now = omega (arith, many, c.loop-rule.auto.rule-end) in
    rw ended at (c.loop-rule.invariant numbers are)
