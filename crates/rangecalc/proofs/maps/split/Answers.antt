use Rattle.rangecalc.specs.Named.{following}
use Rattle.rangecalc.proofs.Letters.{at_each, each_put_twice}
use Rattle.rangecalc.proofs.maps.split.Goals as goal

pub returns-in-Ok : goal.returns-in-Ok
returns-in-Ok g c =
    let name = c.args.name in
    let same = at_each g.C.Storage.items c.args.maps.now name c.at_mut.ensures.value in (
      _,
      _,
      rw same at c.in-Ok.ensures.split,
      each_put_twice g.C.Storage.items c.args.maps.now name c.next.result (following name)
          c.split_off.new.self c.in-Ok.rest c.next.ensures,
    )
