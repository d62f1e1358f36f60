use Rattle.std.proofs.Common.{Ok, ap, subst}
use Rattle.std.proofs.lemmas.Result.{err_from_is_err_and}
use Rattle.address_lists.proofs.Reading.{bad_found, good_found, nothing_found}
use Rattle.address_lists.specs.Reading.{IsSaid}
use Rattle.address_lists.proofs.read.read_line.Goals as goal

pub returns-in-Some-clause-found : goal.returns-in-Some-clause-found
returns-in-Some-clause-found g c =
    let (addresses, says) =
    subst (IsSaid c.args.strict c.as_slice.result.now) c.in-Some.is c.in_ok-line.ensures.said in (
      addresses,
      good_found c.args.strict c.args.number (g.R.Read.remaining c.args.input.now)
          (g.R.Read.remaining c.next_line.new.input) c.next_line.new.line.items
          c.as_slice.result.now c.in-Some.line c.as_slice.ensures.value
          (c.in_ok-next_line.ensures.read (ap Ok c.if-not-branch.false)) says,
    )

pub returns-in-None-clause-found : goal.returns-in-None-clause-found
returns-in-None-clause-found g c =
    nothing_found c.args.strict c.args.number (g.R.Read.remaining c.args.input.now)
    (g.R.Read.remaining c.next_line.new.input) c.next_line.new.line.items c.as_slice.result.now
    c.as_slice.ensures.value (c.in_ok-next_line.ensures.read (ap Ok c.if-not-branch.false))
    (subst (IsSaid c.args.strict c.as_slice.result.now) c.in-None.is c.in_ok-line.ensures.said)

pub returns-in_err-line-clause-bad : goal.returns-in_err-line-clause-bad
returns-in_err-line-clause-bad g c =
    let error = err_from_is_err_and c.from_residual-in_err-line.result c.from_residual-in_err-line.ensures.1 in
    rw (error.1, error.2)
    (bad_found c.args.strict c.args.number (g.R.Read.remaining c.args.input.now)
    (g.R.Read.remaining c.next_line.new.input) c.next_line.new.line.items c.as_slice.result.now
    c.args.number c.in_err-line.field-0.0 c.as_slice.ensures.value
    (c.in_ok-next_line.ensures.read (ap Ok c.if-not-branch.false)) c.in_err-line.ensures.bad)
