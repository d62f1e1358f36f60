use Rattle.std.proofs.Common.{map, subst}
use Rattle.address_table_commands.proofs.Numbers.{AreNumberedTo, no_value, numbered_all, numbered_more, numbered_none, value_first}
use Rattle.address_table_commands.proofs.select.numbers_of.Goals as goal

pub loop-value-init : goal.loop-value-init
loop-value-init c = rw c.new-numbers.ensures.items (numbered_none _ _)

pub loop-value-preserved : goal.loop-value-preserved
loop-value-preserved c =
    let values = map (λ v. v.now) c.args.values.now in
    let now = c.loop-value.texts in
    let numbers = c.loop-value.numbers.items in
    let first = value_first c.args.values.now c.loop-value.value-index _ c.loop-value-test.true in
    rw c.in_ok-push.ensures.items
    (numbered_more values _ c.args.texts.now now c.number_of.new.self _ numbers
    c.in_ok-number_of.field-0
    (subst (λ left. AreNumberedTo values left c.args.texts.now now numbers) first
    c.loop-value.invariant)
    c.in_ok-number_of.ensures.found c.in_ok-number_of.ensures.kept
    c.in_ok-number_of.ensures.different)

pub returns-clause-more : goal.returns-clause-more
returns-clause-more c = c.loop-value.invariant.more

pub returns-clause-numbers : goal.returns-clause-numbers
returns-clause-numbers c =
    numbered_all _ _ _ _ (rw (no_value c.args.values.now c.loop-value.value-index c.loop-value-test.false)
    at c.loop-value.invariant)
