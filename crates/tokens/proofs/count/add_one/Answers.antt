use Rattle.std.proofs.Common.{arith}
use Rattle.tokens.proofs.Counting.{counts_beyond, counts_more}
use Rattle.tokens.proofs.count.add_one.Goals as goal

pub returns-in-Some-clause-counted : goal.returns-in-Some-clause-counted
returns-in-Some-clause-counted c = λ numbers are.
    counts_more numbers c.args.counts.now c.args.rule c.in-Some.count (omega arith) are
    (grind (arith, are c.args.rule (omega arith)))

pub returns-else-rule-counts-clause-counted : goal.returns-else-rule-counts-clause-counted
returns-else-rule-counts-clause-counted c = λ numbers are.
    counts_beyond numbers c.args.counts.now c.args.rule (omega arith) are
