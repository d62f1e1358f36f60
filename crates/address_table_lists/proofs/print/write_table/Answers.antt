use Rattle.std.proofs.Common.{◌++◌, refl}
use Rattle.line_program.proofs.Listing.{appends_then, on_ok_as}
use Rattle.address_table_lists.proofs.print.write_table.Goals as goal

pub returns : goal.returns
returns g c =
    let first = c.in_ok-write_framed_ranges.ensures in
    let before = g.W.Write.contents c.args.out.now in
    let now = g.W.Write.contents c.write_framed_ranges.new.out in
    let next = g.W.Write.contents c.write_framed_ranges-2.new.out in
    on_ok_as c.write_framed_ranges-2.result _ _ (λ second. (
      first.0 ++ second.0,
      record {
        first = first.0;
        second = second.0;
        v4 = first.1;
        v6 = second.1;
        canonical_v4 = rw c.iter-v4.ensures.items at c.iter-v4.ensures.canonical;
        canonical_v6 = rw c.iter-v6.ensures.items at c.iter-v6.ensures.canonical;
        is = refl;
      },
      appends_then before now next first.0 second.0 first.2 second.2,
    )) c.write_framed_ranges-2.ensures
