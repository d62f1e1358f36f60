use Rattle.cidr.proofs.Commands.{all_asked}
use Rattle.cidr.proofs.serve.asked.Goals as goal

pub returns-in-Merge-clause-made : goal.returns-in-Merge-clause-made
returns-in-Merge-clause-made g c =
    all_asked c.args.reading c.args.command _ c.args.left_out.now.items c.merged.new.left_out.items
    c.merged.result c.in-Merge.is c.merged.ensures.made
