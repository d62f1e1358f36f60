use Rattle.std.proofs.Common.{◌++◌, refl}
use Rattle.line_program.proofs.Listing.{appends_then, on_ok_as}
use Rattle.address_lists.proofs.split.write_split_prefixes.Goals as goal

pub returns : goal.returns
returns g c =
    let first = c.in_ok-write_set.ensures in
    let before = g.W.Write.contents c.args.out.now in
    let now = g.W.Write.contents c.write_set.new.out in
    let next = g.W.Write.contents c.write_set-2.new.out in
    on_ok_as c.write_set-2.result _ _ (λ second. (
      first.0 ++ second.0,
      (first.0, second.0, first.1, second.1, refl),
      appends_then before now next first.0 second.0 first.2 second.2,
    )) c.write_set-2.ensures
