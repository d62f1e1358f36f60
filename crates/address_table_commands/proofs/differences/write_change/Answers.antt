use Rattle.line_program.proofs.Listing.{appends_then, on_ok_as}
use Rattle.address_table_commands.specs.Differences.{side_line}
use Rattle.address_table_commands.proofs.differences.write_change.Goals as goal

pub returns : goal.returns
returns g c =
    on_ok_as c.write_side-2.result _ _
    (appends_then (g.W.Write.contents c.args.out.now) (g.W.Write.contents c.write_side.new.out)
    (g.W.Write.contents c.write_side-2.new.out) _ _ c.in_ok-write_side.ensures)
    c.write_side-2.ensures
