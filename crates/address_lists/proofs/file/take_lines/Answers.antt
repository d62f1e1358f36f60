use Rattle.std.proofs.Common.{subst, sym}
use Rattle.std.proofs.lemmas.Result.{err_from_is_err_and}
use Rattle.address_lists.specs.Waiting.{HasSoFar}
use Rattle.address_lists.specs.Reading.{IsTakenIn}
use Rattle.address_lists.proofs.Files.{all_taken, first_bad, others_bad}
use Rattle.address_lists.proofs.file.take_lines.Goals as goal

pub returns-clause-read : goal.returns-clause-read
returns-clause-read g c = λ bytes first.
    all_taken c.args.strict c.args.bad_lines c.args.start.now.line.items
    (g.R.Read.remaining c.args.input.now) (HasSoFar c.args.list.now c.args.waiting.now)
    (HasSoFar c.take_first.new.list c.take_first.new.waiting)
    (HasSoFar c.read_all.new.list c.read_all.new.waiting) c.in_ok-left_out.left_out
    c.in_ok-others.others
    (subst (λ text. IsTakenIn c.args.strict text (HasSoFar c.args.list.now c.args.waiting.now)
    (HasSoFar c.take_first.new.list c.take_first.new.waiting) c.in_ok-left_out.left_out)
    c.as_slice-line.ensures.value c.in_ok-left_out.ensures.taken)
    c.in_ok-others.ensures.read c.in_ok-left_out.ensures.all c.in_ok-others.ensures.all bytes first

pub returns-in_err-left_out-clause-bad : goal.returns-in_err-left_out-clause-bad
returns-in_err-left_out-clause-bad g c =
    let error = err_from_is_err_and c.from_residual.result c.from_residual.ensures.1 in
    rw (error.1, error.2) (λ bytes first.
    first_bad c.args.strict c.args.start.now.line.items bytes c.args.start.now.number
    (g.R.Read.remaining c.args.input.now) c.in_err-left_out.field-0.0
    (rw (sym c.as_slice-line.ensures.value) c.in_err-left_out.ensures.bad) first)

pub returns-in_err-others-clause-bad : goal.returns-in_err-others-clause-bad
returns-in_err-others-clause-bad g c =
    let error = err_from_is_err_and c.from_residual-in_err-others.result
    c.from_residual-in_err-others.ensures.1 in
    rw (error.1, error.2) (λ bytes first.
    others_bad c.args.strict c.args.bad_lines c.args.start.now.line.items c.args.start.now.number
    c.in_ok-left_out.left_out (g.R.Read.remaining c.args.input.now)
    (HasSoFar c.args.list.now c.args.waiting.now)
    (HasSoFar c.take_first.new.list c.take_first.new.waiting) c.in_err-others.field-0.0
    (subst (λ text. IsTakenIn c.args.strict text (HasSoFar c.args.list.now c.args.waiting.now)
    (HasSoFar c.take_first.new.list c.take_first.new.waiting) c.in_ok-left_out.left_out)
    c.as_slice-line.ensures.value c.in_ok-left_out.ensures.taken)
    c.in_ok-left_out.ensures.all c.in_err-others.ensures.skipped c.in_err-others.ensures.bad bytes
    first)
