use Rattle.line_program.proofs.Listing.{appends_none}
use Rattle.rangecalc.proofs.listing.write_none.Goals as goal

pub returns-then-is_empty : goal.returns-then-is_empty
returns-then-is_empty g c = rw c.if-is_empty.true c.write_all.ensures.bytes

pub returns : goal.returns
returns g c = rw c.if-is_empty.false (appends_none (g.W.Write.contents c.args.out.now))
