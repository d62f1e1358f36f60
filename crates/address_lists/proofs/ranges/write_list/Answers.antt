use Rattle.std.proofs.Common.{◌++◌, refl}
use Rattle.line_program.proofs.Listing.{appends_then, on_ok_as}
use Rattle.address_prefixes.proofs.Runs.{are_spans}
use Rattle.address_lists.proofs.ranges.write_list.Goals as goal

pub write_all-requires : goal.write_all-requires
write_all-requires g c = are_spans _ 32 c.runs_of.result c.runs_of.ensures

pub write_all-requires-2 : goal.write_all-requires-2
write_all-requires-2 g c = are_spans _ 128 c.runs_of-2.result c.runs_of-2.ensures

pub returns : goal.returns
returns g c =
    let first = c.in_ok-write_all.ensures in
    let before = g.W.Write.contents c.args.out.now in
    let now = g.W.Write.contents c.write_all.new.out in
    let next = g.W.Write.contents c.write_all-2.new.out in
    on_ok_as c.write_all-2.result _ _ (λ second. (
      first.0 ++ second.0,
      (
        first.0,
        second.0,
        record { ranges = c.runs_of.result; whole = c.runs_of.ensures; spelled = first.1 },
        record { ranges = c.runs_of-2.result; whole = c.runs_of-2.ensures; spelled = second.1 },
        refl,
      ),
      appends_then before now next first.0 second.0 first.2 second.2,
    )) c.write_all-2.ensures
