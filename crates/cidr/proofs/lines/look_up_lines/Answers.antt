use Rattle.std.proofs.lemmas.Result.{err_from_is_err_and}
use Rattle.std.specs.Prelude.{IfSome}
use Rattle.address_lines.specs.Sought.{AreTold}
use Rattle.cidr.proofs.Halted.{AreHalted, all_halted_over, all_told_over, list_stopped}
use Rattle.cidr.proofs.lines.look_up_lines.Goals as goal

pub returns-clause-told : goal.returns-clause-told
returns-clause-told g c =
    all_told_over c.args.reading c.args.left_out.now.items c.read_source.new.left_out.items
    c.args.source.name (g.R.Read.remaining c.args.source.reader) c.in_ok-list.list
    (λ list all. IfSome (g.R.Read.remaining c.args.lines.reader) (λ text. AreTold list text
    (g.W.Write.contents c.args.out.now) (g.W.Write.contents c.tell.new.out) all))
    c.tell.result c.in_ok-list.ensures.read c.tell.ensures.told

pub returns-clause-bad : goal.returns-clause-bad
returns-clause-bad g c =
    all_halted_over c.args.reading c.args.left_out.now.items c.read_source.new.left_out.items
    c.args.source.name (g.R.Read.remaining c.args.source.reader) c.in_ok-list.list
    (λ list. AreHalted list (g.R.Read.remaining c.args.lines.reader)
    (g.W.Write.contents c.args.out.now) (g.W.Write.contents c.tell.new.out) c.args.lines.name)
    c.tell.result c.in_ok-list.ensures.read c.tell.ensures.bad

pub returns-in_err-list-clause-bad : goal.returns-in_err-list-clause-bad
returns-in_err-list-clause-bad g c =
    let error = err_from_is_err_and c.from_residual.result c.from_residual.ensures.1 in
    rw (error.1, error.2)
    (list_stopped c.args.reading c.args.left_out.now.items c.read_source.new.left_out.items
    c.args.source.name (g.R.Read.remaining c.args.source.reader)
    (λ list. AreHalted list (g.R.Read.remaining c.args.lines.reader)
    (g.W.Write.contents c.args.out.now) (g.W.Write.contents c.args.out.now) c.args.lines.name)
    c.in_err-list.field-0.0 c.in_err-list.ensures.bad)
