use Rattle.odd_keys.proofs.Decided.{binds_equal}
use Rattle.odd_keys.proofs.promises.bindings.clone_of_bound.Goals as goal

pub returns-in_ok-clone-in-Some : goal.returns-in_ok-clone-in-Some
returns-in_ok-clone-in-Some g c =
    binds_equal g.K.MaybeBounded.order g.V.PartialEq.eq c.args.key g.met.V.Eq.laws
    (g.C.Storage.items c.args.map.now) c.in-Some.value.now c.in_ok-clone-in-Some.field-0
    (c.requires c.in-Some.value.now c.in_ok-clone-in-Some.field-0
    c.in_ok-clone-in-Some.ensures.cases) c.in-Some.ensures.value
