use Rattle.std.proofs.Common.{◌≡◌, ◌+◌, ◌^◌, arith}
use Rattle.shortest_tables.proofs.Walks.{uniform_unmet_first}
use Rattle.shortest_tables.proofs.spans.uniform.Goals as goal

pub returns-then-last-span-clause-alike : goal.returns-then-last-span-clause-alike
returns-then-last-span-clause-alike c =
    let e : c.greatest_of.result + 1 ≡ 2 ^ c.args.free = c.greatest_of.ensures in
    uniform_unmet_first c.args.otherwise c.requires.left.0 c.args.free c.args.network
    (c.args.network + c.greatest_of.result) _ c.args.left.now (omega (arith, e)) c.if-last-span.true
    c.requires.left.1
