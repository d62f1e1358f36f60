use Rattle.std.proofs.Common.{IfSome, arith, inr, subst}
use Rattle.std.proofs.lemmas.Result.{err_from_is_err_and}
use Rattle.address_lists.specs.Files.{IsStart}
use Rattle.address_lists.proofs.Files.{json_read, json_unread, lines_read, lines_unread, none_read, none_seen}
use Rattle.address_lists.proofs.file.read_addresses.Goals as goal

pub returns-in_err-start-clause-fault : goal.returns-in_err-start-clause-fault
returns-in_err-start-clause-fault g c =
    let error = err_from_is_err_and c.from_residual.result c.from_residual.ensures.1 in
    rw (error.1, error.2)
    (none_seen c.args.strict c.args.bad_lines (g.R.Read.remaining c.args.input.now)
    c.in_err-start.field-0.0 c.in_err-start.ensures.reason)

pub returns-in_default-clause-read : goal.returns-in_default-clause-read
returns-in_default-clause-read g c =
    none_read c.args.strict c.args.bad_lines (g.R.Read.remaining c.args.input.now)
    (g.R.Read.remaining c.start_of.new.input) c.new.result c.new.ensures.v4 c.new.ensures.v6
    (grind (arith, c.in_ok-start.ensures.found))

pub returns-in_err-text-clause-fault : goal.returns-in_err-text-clause-fault
returns-in_err-text-clause-fault g c =
    let error = err_from_is_err_and c.from_residual-in_err-text.result
    c.from_residual-in_err-text.ensures.1 in
    rw (error.1, error.2)
    (none_seen c.args.strict c.args.bad_lines (g.R.Read.remaining c.args.input.now)
    c.in_err-text.field-0.0 (inr c.in_err-text.ensures.memory))

pub returns-in_err-read_json_after-clause-fault : goal.returns-in_err-read_json_after-clause-fault
returns-in_err-read_json_after-clause-fault g c =
    let error = err_from_is_err_and c.from_residual-in_err-read_json_after.result
    c.from_residual-in_err-read_json_after.ensures.1 in
    let later = g.R.Read.remaining c.start_of.new.input in
    rw (error.1, error.2)
    (json_unread c.args.strict c.args.bad_lines (g.R.Read.remaining c.args.input.now) later
    c.in-Some.start c.in_ok-text.text.items c.in_err-read_json_after.field-0.0
    (subst (λ s. IfSome (g.R.Read.remaining c.args.input.now) (λ bytes. IsStart bytes s later))
    c.in-Some.is c.in_ok-start.ensures.found)
    (grind arith) c.in_ok-text.ensures.text c.in_err-read_json_after.ensures.fault)

pub returns-then-start-eq123-clause-read : goal.returns-then-start-eq123-clause-read
returns-then-start-eq123-clause-read g c =
    let later = g.R.Read.remaining c.start_of.new.input in
    json_read c.args.strict c.args.bad_lines (g.R.Read.remaining c.args.input.now) later
    c.in-Some.start c.in_ok-text.text.items _
    (subst (λ s. IfSome (g.R.Read.remaining c.args.input.now) (λ bytes. IsStart bytes s later))
    c.in-Some.is c.in_ok-start.ensures.found)
    (grind arith) c.in_ok-text.ensures.text c.in_ok-read_json_after.ensures.read

pub returns-clause-read : goal.returns-clause-read
returns-clause-read g c =
    let later = g.R.Read.remaining c.start_of.new.input in
    lines_read c.args.strict c.args.bad_lines (g.R.Read.remaining c.args.input.now) later
    c.in-Some.start c.read_lines.result
    (subst (λ s. IfSome (g.R.Read.remaining c.args.input.now) (λ bytes. IsStart bytes s later))
    c.in-Some.is c.in_ok-start.ensures.found)
    (grind arith) c.read_lines.ensures.read

pub returns-clause-fault : goal.returns-clause-fault
returns-clause-fault g c =
    let later = g.R.Read.remaining c.start_of.new.input in
    lines_unread c.args.strict c.args.bad_lines (g.R.Read.remaining c.args.input.now) later
    c.in-Some.start c.read_lines.result
    (subst (λ s. IfSome (g.R.Read.remaining c.args.input.now) (λ bytes. IsStart bytes s later))
    c.in-Some.is c.in_ok-start.ensures.found)
    (grind arith) c.read_lines.ensures.bad
    c.read_lines.ensures.skipped
