use Rattle.cidr.proofs.Halted.{search_halted}
use Rattle.cidr.proofs.lines.search_text.Goals as goal

pub returns-in-Err-clause-bad : goal.returns-in-Err-clause-bad
returns-in-Err-clause-bad g c =
    search_halted c.args.list.now c.args.search c.args.before.now c.args.text.name
    (g.W.Write.contents c.args.out.now) (g.W.Write.contents c.write_found_lines.new.out)
    (g.R.Read.remaining c.args.text.reader) c.in-Err.halt c.stop_of.result c.stop_of.ensures
    c.in-Err.ensures.halted c.in-Err.ensures.reason
