use Rattle.address_table_commands.proofs.Compared.{both_written}
use Rattle.address_table_commands.proofs.differences.write_changes.Goals as goal

pub returns-in_ok-write_family-in-All : goal.returns-in_ok-write_family-in-All
returns-in_ok-write_family-in-All g c =
    rw c.in-All.is
    (both_written c.write_family-in-All.result (g.W.Write.contents c.args.out.now)
    (g.W.Write.contents c.write_family.new.out) (g.W.Write.contents c.write_family-in-All.new.out)
    _ _ c.in_ok-write_family-in-All.ensures c.write_family-in-All.ensures)
