use Rattle.cidr.proofs.Commands.{invert_answer, other_answer}
use Rattle.cidr.proofs.serve.answered.Goals as goal

pub returns-in-Ok-clause-made : goal.returns-in-Ok-clause-made
returns-in-Ok-clause-made g c =
    invert_answer c.args.reading c.args.command _ c.args.left_out.now.items
    c.asked.new.left_out.items c.in_ok-list.list c.in-Ok.others c.in-Invert.is
    c.in_ok-list.ensures.made c.in-Ok.ensures

pub returns-clause-made : goal.returns-clause-made
returns-clause-made g c =
    other_answer c.args.reading c.args.command _ c.args.left_out.now.items
    c.asked.new.left_out.items c.in_ok-list.list c.in_default.not-Invert c.in_ok-list.ensures.made
