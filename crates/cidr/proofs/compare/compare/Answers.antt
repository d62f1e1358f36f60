use Rattle.std.proofs.Common.{[], ◌∷◌}
use Rattle.std.proofs.lemmas.Result.{err_from_is_err_and}
use Rattle.cidr.proofs.Commands.{fails_unwritable, first_unread, later_unread, unwritable, unwritable_unread}
use Rattle.cidr.proofs.Compared.{both_compared}
use Rattle.cidr.proofs.compare.compare.Goals as goal

pub returns-clause-printed : goal.returns-clause-printed
returns-clause-printed g c =
    both_compared c.args.reading c.args.left_out.now.items c.read_source-2.new.left_out.items
    (g.W.Write.contents c.args.out.now) (g.W.Write.contents c.print.new.out)
    c.read_source.new.left_out.items (g.R.Read.remaining c.args.first.reader)
    (g.R.Read.remaining c.args.second.reader) c.in_ok-first.first c.in_ok-second.second
    c.print.result c.in_ok-first.ensures.read c.in_ok-second.ensures.read c.print.ensures.printed

pub returns-clause-silent : goal.returns-clause-silent
returns-clause-silent g c = fails_unwritable _ c.print.result c.print.ensures.failed

pub returns-clause-bad : goal.returns-clause-bad
returns-clause-bad g c =
    unwritable c.args.reading
    (g.R.Read.remaining c.args.first.reader ∷ g.R.Read.remaining c.args.second.reader ∷ [])
    (c.args.first.name ∷ c.args.second.name ∷ []) c.print.result c.print.ensures.failed

pub returns-in_err-first-clause-bad : goal.returns-in_err-first-clause-bad
returns-in_err-first-clause-bad g c =
    let error = err_from_is_err_and c.from_residual.result c.from_residual.ensures.1 in
    rw (error.1, error.2)
    (first_unread c.args.reading (g.R.Read.remaining c.args.first.reader)
    (g.R.Read.remaining c.args.second.reader ∷ []) c.args.first.name (c.args.second.name ∷ [])
    c.in_err-first.field-0.0 c.in_err-first.ensures.bad)

pub returns-in_err-second-clause-bad : goal.returns-in_err-second-clause-bad
returns-in_err-second-clause-bad g c =
    let error = err_from_is_err_and c.from_residual-in_err-second.result
    c.from_residual-in_err-second.ensures.1 in
    rw (error.1, error.2)
    (later_unread c.args.reading (g.R.Read.remaining c.args.first.reader)
    (g.R.Read.remaining c.args.second.reader ∷ []) c.args.first.name (c.args.second.name ∷ [])
    c.args.left_out.now.items c.read_source.new.left_out.items c.in_ok-first.first
    c.in_err-second.field-0.0 c.in_ok-first.ensures.read
    (first_unread c.args.reading (g.R.Read.remaining c.args.second.reader) [] c.args.second.name []
    c.in_err-second.field-0.0 c.in_err-second.ensures.bad))

pub returns-clause-unread : goal.returns-clause-unread
returns-clause-unread g c =
    unwritable_unread g.R.LineRead.fails c.print.result c.print.ensures.failed
