use Rattle.std.proofs.Common.{inr}
use Rattle.std.proofs.lemmas.Result.{err_from_is_err_and}
use Rattle.address_lists.specs.Waiting.{HasSoFar}
use Rattle.address_lists.proofs.Reading.{all_added, other_fault}
use Rattle.address_lists.proofs.read.read_list.Goals as goal

pub returns-clause-read : goal.returns-clause-read
returns-clause-read g c =
    all_added c.args.strict 1 (g.R.Read.remaining c.args.input.now) c.in_ok-others.others
    c.args.list.now c.add_all.new.list (HasSoFar c.args.list.now c.new-waiting.result)
    (HasSoFar c.read_all.new.list c.read_all.new.waiting)
    (c.new-waiting.ensures c.args.list.now) c.in_ok-others.ensures.read c.in_ok-add_all.ensures.added

pub returns-in_err-add_all-clause-bad : goal.returns-in_err-add_all-clause-bad
returns-in_err-add_all-clause-bad g c =
    let error = err_from_is_err_and c.from_residual-in_err-add_all.result
    c.from_residual-in_err-add_all.ensures.1 in
    rw (error.1, error.2)
    (other_fault c.args.strict 1 (g.R.Read.remaining c.args.input.now) c.in_err-add_all.field-0.0
    (inr c.in_err-add_all.ensures.memory))
