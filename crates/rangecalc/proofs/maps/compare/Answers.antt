use Rattle.rangecalc.proofs.Letters.{at_each}
use Rattle.rangecalc.proofs.maps.compare.Goals as goal

pub returns : goal.returns
returns g c =
    let one = at_each g.C.Storage.items c.args.maps.now c.args.name c.at.ensures in
    let other = at_each g.C.Storage.items c.args.maps.now c.args.other c.at-2.ensures in
    rw (one, other) at c.are_related.ensures
