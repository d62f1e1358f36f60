use Rattle.std.proofs.Common.{◌≡◌, ◌+◌, ◌^◌, arith}
use Rattle.least_covers.proofs.Walks.{unmet_first}
use Rattle.least_covers.proofs.runs.uniform.Goals as goal

pub returns-then-last-run-clause-alike : goal.returns-then-last-run-clause-alike
returns-then-last-run-clause-alike c =
    let e : c.greatest_of.result + 1 ≡ 2 ^ c.args.free = c.greatest_of.ensures in
    unmet_first c.args.free c.args.network (c.args.network + c.greatest_of.result) _ c.args.left.now
    (omega (arith, e)) c.if-last-run.true c.requires.left
