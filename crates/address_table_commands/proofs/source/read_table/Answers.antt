use Rattle.address_table_commands.proofs.Files.{read_one}
use Rattle.address_table_commands.proofs.source.read_table.Goals as goal

pub returns-in-Ok-clause-read : goal.returns-in-Ok-clause-read
returns-in-Ok-clause-read g c =
    read_one c.args.reading c.args.header.now (g.R.Read.remaining c.args.source.reader)
    c.args.left_out.now.items c.count.new.left_out.items c.args.rows.now c.read_rows.new.rows
    c.in-Ok.others c.count.result c.in-Ok.ensures.read c.in-Ok.ensures.all c.count.ensures.counted
