use Rattle.std.proofs.Common.{arith}
use Rattle.lexing.proofs.Meeting.{met_beyond, met_more}
use Rattle.lexing.proofs.build.index_of.Goals as goal

pub returns-then-len-budget-clause-refused : goal.returns-then-len-budget-clause-refused
returns-then-len-budget-clause-refused c =
    λ rules met reached.
    met_beyond rules c.args.sets.now.listed.items c.args.set.now c.args.budget met reached
    c.in_default.ensures.none (omega arith)

pub returns-in_err-add-clause-few : goal.returns-in_err-add-clause-few
returns-in_err-add-clause-few c = omega (arith, c.add.ensures.one)

pub returns-clause-few : goal.returns-clause-few
returns-clause-few c = omega (arith, c.add.ensures.one)

pub returns-clause-met : goal.returns-clause-met
returns-clause-met c =
    λ rules met reached.
    let (copy, pushed, same) = c.in_ok-add.ensures.added in
    met_more rules c.args.sets.now.listed.items c.add.new.self.listed.items c.args.set.now copy met
    reached c.in_default.ensures.none same pushed
