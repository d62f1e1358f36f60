use Rattle.std.proofs.Common.{rules, IsTrue}
use Rattle.range_algebra.specs.Range.{IsEmptyRange, IsKeyRange}
use Rattle.range_algebra.specs.References.{range_of}
use Rattle.range_algebra.proofs.Holding.{empty_is_keyless}
use Rattle.range_algebra.proofs.Completeness.{keyless_is_empty}
use Rattle.range_algebra.proofs.any.references.AnyRange+ref+T.ref_is_empty.Goals as goal

pub returns-clause-keyless : goal.returns-clause-keyless
returns-clause-keyless g c = λ e.
    let order = g.T.MaybeBounded.order in
    let empty : IsTrue c.starts_past_end.result → IsEmptyRange order (range_of c.args.self.now) =
    search rules in
    empty_is_keyless order g.met.T.PartialEnum.lawful (range_of c.args.self.now) (empty e)

pub returns-clause-complete : goal.returns-clause-complete
returns-clause-complete g c = λ complete none.
    let order = g.T.MaybeBounded.order in
    let empty : IsEmptyRange order (range_of c.args.self.now) → IsTrue c.starts_past_end.result =
    search rules in
    let known : IsKeyRange order (range_of c.args.self.now) =
    (c.known_bound.ensures, c.known_bound-2.ensures) in
    empty (keyless_is_empty order g.met.T.PartialEnum.lawful complete
    (range_of c.args.self.now) known none)
