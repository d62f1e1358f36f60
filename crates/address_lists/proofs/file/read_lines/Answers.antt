use Rattle.std.proofs.Common.{inr}
use Rattle.std.proofs.lemmas.Result.{err_from_is_err_and}
use Rattle.address_lists.specs.Waiting.{HasSoFar}
use Rattle.address_lists.proofs.Files.{all_read, other_from}
use Rattle.address_lists.proofs.file.read_lines.Goals as goal

pub returns-clause-read : goal.returns-clause-read
returns-clause-read g c = λ bytes first.
    all_read c.args.strict c.args.bad_lines bytes c.new-list.result c.add_all.new.list
    (HasSoFar c.new-list.result c.new-waiting.result)
    (HasSoFar c.take_lines.new.list c.take_lines.new.waiting) c.in_ok-others.others
    c.new-list.ensures.v4 c.new-list.ensures.v6 (c.new-waiting.ensures c.new-list.result)
    (c.in_ok-others.ensures.read bytes first) c.in_ok-add_all.ensures.added

pub returns-in_err-add_all-clause-bad : goal.returns-in_err-add_all-clause-bad
returns-in_err-add_all-clause-bad g c =
    let error = err_from_is_err_and c.from_residual-in_err-add_all.result
    c.from_residual-in_err-add_all.ensures.1 in
    rw (error.1, error.2) (λ bytes first.
    other_from c.args.strict c.args.start.now.number bytes c.in_err-add_all.field-0.0
    (inr c.in_err-add_all.ensures.memory))
