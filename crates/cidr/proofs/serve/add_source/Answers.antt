use Rattle.cidr.proofs.Commands.{combined_one}
use Rattle.cidr.proofs.serve.add_source.Goals as goal

pub returns-in-Ok-clause-put : goal.returns-in-Ok-clause-put
returns-in-Ok-clause-put g c =
    combined_one c.args.reading c.args.command (g.R.Read.remaining c.args.source.reader)
    c.args.left_out.now.items c.read_source.new.left_out.items c.args.list.now
    c.in_ok-other.other c.combine.new.list c.in_ok-other.ensures.read c.in-Ok.ensures
