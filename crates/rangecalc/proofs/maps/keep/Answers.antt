use Rattle.rangecalc.proofs.Letters.{at_each, each_put}
use Rattle.rangecalc.proofs.maps.keep.Goals as goal

pub returns-in-Ok : goal.returns-in-Ok
returns-in-Ok g c =
    let maps = c.args.maps.now in
    let one = at_each g.C.Storage.items maps c.args.first c.at.ensures in
    let other = at_each g.C.Storage.items maps c.args.second c.at-2.ensures in (
      _,
      rw (one, other) at c.in-Ok.ensures,
      each_put g.C.Storage.items maps c.args.name
          c.in-Ok.made,
    )
