use Rattle.std.proofs.Common.{arith, [], map}
use Rattle.std.specs.Prelude.{ℕ, Ok}
use Rattle.std.proofs.lemmas.Iterator.Adapters.{YieldsList-from_vec, fact_from_collect}
use Rattle.std.specs.Ordering.{int_eq}
use Rattle.btree_range_map.specs.Iteration.{pair_item}
use Rattle.btree_range_map.specs.MapExtending.{AreBoundAfter}
use Rattle.rangecalc.proofs.answer.make_from.Goals as goal

pub returns-in-Ok : goal.returns-in-Ok
returns-in-Ok g c =
    let (source, pairs, becomes, drains, bound) = c.in-Ok.ensures.bound in
    let (ended, (at, yields, last)) = drains in
    let same_length = becomes.1 in
    fact_from_collect {E = ℕ}
    (λ pairs made. AreBoundAfter g.K.MaybeBounded.order int_eq [] made (map pair_item pairs))
    (Ok (g.C.Storage.items c.in-Ok.made)) (pairs, (at, yields, λ _. (ended, last)), bound)
    (YieldsList-from_vec c.args.bindings.items becomes.0
    (omega (arith, same_length, c.args.bindings.ok)))
