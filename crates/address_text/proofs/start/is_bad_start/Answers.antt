use Rattle.std.proofs.Common.{sym, ◌∙◌, arith}
use Rattle.address_text.proofs.Starts.{bad_start, one_fault}
use Rattle.address_text.proofs.start.is_bad_start.Goals as goal

pub returns-then-start-ge-START_BYTES-clause-bad :
    goal.returns-then-start-ge-START_BYTES-clause-bad
returns-then-start-ge-START_BYTES-clause-bad c = λ plain.
    bad_start c.args.start.now (omega (arith, c.if-start-ge-START_BYTES.true)) (sym c.are_plain.ensures ∙ plain)

pub returns-then-start-ge-START_BYTES-clause-fault :
    goal.returns-then-start-ge-START_BYTES-clause-fault
returns-then-start-ge-START_BYTES-clause-fault c = λ plain.
    one_fault c.args.start.now (omega (arith, c.if-start-ge-START_BYTES.true)) (sym c.are_plain.ensures ∙ plain)
