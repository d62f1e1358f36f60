use Rattle.std.proofs.Common.{◌∙◌, ap, refl}
use Rattle.std.specs.Prelude.{Err}
use Rattle.rangecalc.proofs.Letters.{at_each, each_put}
use Rattle.rangecalc.proofs.maps.combine.Goals as goal

pub returns-in-Ok : goal.returns-in-Ok
returns-in-Ok g c =
    let maps = c.args.maps.now in
    let one = at_each g.C.Storage.items maps c.args.first c.at.ensures in
    let other = at_each g.C.Storage.items maps c.args.second c.at-2.ensures in (
      _,
      rw (one, other) at c.in-Ok.ensures.bound,
      each_put g.C.Storage.items maps c.args.name c.in-Ok.made,
    )

pub returns-in-Err-Closure : goal.returns-in-Err-Closure
returns-in-Err-Closure g c =
    let maps = c.args.maps.now in
    let one = at_each g.C.Storage.items maps c.args.first c.at.ensures in
    let other = at_each g.C.Storage.items maps c.args.second c.at-2.ensures in
    let fails = c.combined.ensures.fault c.in-Err-Closure.field-0-0
    (c.in-Err-Closure.is ∙ ap Err c.in-Err-Closure.field-0-is) in
    (_, rw (one, other) at fails, refl)
