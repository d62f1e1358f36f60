use Rattle.cidr.proofs.Halted.{halted_told}
use Rattle.cidr.proofs.lines.tell.Goals as goal

pub returns-clause-bad : goal.returns-clause-bad
returns-clause-bad g c =
    halted_told c.args.list.now (g.W.Write.contents c.args.out.now)
    (g.W.Write.contents c.write_told_lines.new.out) (g.W.Write.contents c.flush-in-Err.new.self)
    c.args.lines.name (g.R.Read.remaining c.args.lines.reader) c.in-Err.halt c.stop_of.result
    c.stop_of.ensures c.in-Err.ensures.bad c.flush-in-Err.ensures.bytes
