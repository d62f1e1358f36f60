use Rattle.std.proofs.Common.{refl, length, arith}
use Rattle.std.proofs.lemmas.Option.{slice_get_read}
use Rattle.tokens.proofs.Warned.{warned_all, warned_more, warned_none}
use Rattle.tokens.proofs.warnings.warn.Goals as goal

pub loop-at-init : goal.loop-at-init
loop-at-init g c = λ lexer is. warned_none lexer _ _ _ _ _

pub loop-at-preserved : goal.loop-at-preserved
loop-at-preserved g c = λ lexer is.
    let numbers = c.args.rules.now.numbers.items in
    let rules = c.args.rules.now.rules.items in
    let at = c.loop-at.at in
    let number = c.index-number.result.now in
    let rule = c.index-rule.result.now in
    let there =
    slice_get_read numbers (length numbers) at number refl (omega (arith, c.requires)) c.index-number.ensures
    in
    let stands = slice_get_read rules (length rules) at rule refl (omega arith) c.index-rule.ensures in
    warned_more lexer c.args.table.now.states.items c.args.path.now numbers rules at number rule _ _ _
    there stands (c.loop-at.invariant lexer is) (c.in_ok-warn_of.ensures lexer is)

pub returns : goal.returns
returns g c = λ lexer is.
    warned_all lexer _ c.args.path.now c.args.rules.now.numbers.items c.args.rules.now.rules.items
    c.loop-at.at _ _ (omega (arith, c.requires)) (omega arith) (c.loop-at.invariant lexer is)
