use Rattle.std.proofs.lemmas.Result.{err_from_is_err_and}
use Rattle.cidr.proofs.Commands.{out_of_memory, read_one, unread_one}
use Rattle.cidr.proofs.serve.read_source.Goals as goal

pub returns-in_ok-count-in-Ok-clause-read : goal.returns-in_ok-count-in-Ok-clause-read
returns-in_ok-count-in-Ok-clause-read g c =
    read_one c.args.reading (g.R.Read.remaining c.args.source.reader) c.args.left_out.now.items
    c.count.new.left_out.items c.in-Ok.list c.in-Ok.others c.in-Ok.ensures.read
    c.in_ok-count-in-Ok.ensures.counted

pub returns-in_err-count-in-Ok-clause-bad : goal.returns-in_err-count-in-Ok-clause-bad
returns-in_err-count-in-Ok-clause-bad g c =
    let error = err_from_is_err_and c.from_residual.result c.from_residual.ensures.1 in
    rw (error.1, error.2)
    (out_of_memory c.args.reading (g.R.Read.remaining c.args.source.reader) c.args.source.name
    c.in_err-count-in-Ok.field-0.0 c.in_err-count-in-Ok.ensures.memory)

pub returns-in-Err-clause-bad : goal.returns-in-Err-clause-bad
returns-in-Err-clause-bad g c =
    unread_one c.args.reading (g.R.Read.remaining c.args.source.reader) c.args.source.name
    c.in-Err.error c.in-Err.ensures.fault
