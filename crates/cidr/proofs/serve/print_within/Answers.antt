use Rattle.cidr.proofs.Limits.{within_written}
use Rattle.cidr.proofs.serve.print_within.Goals as goal

pub returns-in_ok-print-in-Ok-clause-printed : goal.returns-in_ok-print-in-Ok-clause-printed
returns-in_ok-print-in-Ok-clause-printed g c =
    within_written c.args.output.now c.args.list c.in-Ok.field-0.list c.in-Ok.field-0.added
    (g.W.Write.contents c.args.out.now) (g.W.Write.contents c.print.new.out)
    c.in-Ok.ensures c.in_ok-print-in-Ok.ensures.printed
