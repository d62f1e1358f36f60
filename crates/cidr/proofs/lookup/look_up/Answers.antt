use Rattle.std.proofs.Common.{[], ◌∷◌}
use Rattle.std.proofs.lemmas.Result.{err_from_is_err_and}
use Rattle.cidr.proofs.Commands.{fails_unwritable, first_unread, unwritable}
use Rattle.cidr.proofs.LookedUp.{all_looked_up}
use Rattle.cidr.proofs.lookup.look_up.Goals as goal

pub returns-clause-printed : goal.returns-clause-printed
returns-clause-printed g c =
    all_looked_up c.args.reading c.args.addresses.now c.args.left_out.now.items
    c.read_source.new.left_out.items (g.W.Write.contents c.args.out.now)
    (g.W.Write.contents c.print.new.out) (g.R.Read.remaining c.args.source.reader)
    c.in_ok-list.list c.print.result c.in_ok-list.ensures.read c.print.ensures.told
    c.print.ensures.printed

pub returns-clause-silent : goal.returns-clause-silent
returns-clause-silent g c = fails_unwritable _ c.print.result c.print.ensures.failed

pub returns-clause-bad : goal.returns-clause-bad
returns-clause-bad g c = unwritable c.args.reading (g.R.Read.remaining c.args.source.reader ∷ [])
    (c.args.source.name ∷ []) c.print.result c.print.ensures.failed

pub returns-in_err-list-clause-bad : goal.returns-in_err-list-clause-bad
returns-in_err-list-clause-bad g c =
    let error = err_from_is_err_and c.from_residual.result c.from_residual.ensures.1 in
    rw (error.1, error.2)
    (first_unread c.args.reading (g.R.Read.remaining c.args.source.reader) [] c.args.source.name []
    c.in_err-list.field-0.0 c.in_err-list.ensures.bad)
