use Rattle.std.proofs.Common.{◌++◌, refl}
use Rattle.line_program.proofs.Listing.{appends_then, on_ok_as}
use Rattle.address_table_lists.proofs.print.write_families.Goals as goal

pub returns : goal.returns
returns g c =
    let first = rw c.as_slice.ensures.value at c.in_ok-write_framed_entries.ensures in
    let before = g.W.Write.contents c.args.out.now in
    let now = g.W.Write.contents c.write_framed_entries.new.out in
    let next = g.W.Write.contents c.write_framed_entries-2.new.out in
    on_ok_as c.write_framed_entries-2.result _ _ (λ second. (
      first.0 ++ second.0,
      record {
        first = first.0;
        second = second.0;
        first_lines = first.1;
        second_lines = second.1;
        is = refl;
      },
      appends_then before now next first.0 second.0 first.2 second.2,
    )) (rw c.as_slice-2.ensures.value at c.write_framed_entries-2.ensures)
