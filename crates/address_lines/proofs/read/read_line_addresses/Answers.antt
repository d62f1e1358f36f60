use Rattle.std.proofs.Common.{◌≡◌, ap, Ok, subst, sym, arith, ℕ, List, [], Some}
use Rattle.std.proofs.lemmas.Option.{IfSome_then}
use Rattle.line_program.specs.Lines.{IsLineRead}
use Rattle.address_lines.proofs.ReadLines.{all_read, halted, line_read, line_unread, none_read}
use Rattle.address_lines.proofs.read.read_line_addresses.Goals as goal

pub loop-number-init : goal.loop-number-init
loop-number-init g c =
    rw c.new-addresses.ensures.items (none_read (g.R.Read.remaining c.args.input.now))

pub loop-number-preserved : goal.loop-number-preserved
loop-number-preserved g c =
    let left = g.R.Read.remaining c.loop-number.input in
    let later = g.R.Read.remaining c.next_line.new.self in
    line_read (g.R.Read.remaining c.args.input.now) left later c.loop-number.number
    c.loop-number.addresses.items c.add_line.new.addresses.items c.as_slice.result.now
    c.loop-number.invariant
    (subst (IsLineRead left later) (sym c.as_slice.ensures.value)
    (c.in-Ok-true.ensures.read (ap Ok c.in-Ok-true.field-0-test)))
    c.in-Ok.ensures.added

pub returns-in-Ok-false-clause-read : goal.returns-in-Ok-false-clause-read
returns-in-Ok-false-clause-read g c =
    all_read (g.R.Read.remaining c.args.input.now) (g.R.Read.remaining c.loop-number.input)
    c.loop-number.number c.loop-number.addresses.items c.loop-number.invariant
    (IfSome_then _ (c.in-Ok-false.ensures.ended (ap Ok c.in-Ok-false.field-0-test))
    (λ (bytes : List ℕ) (none : (bytes ≡ []) × (g.R.Read.remaining c.next_line.new.self ≡ Some [])).
    none.0))

pub returns-in-Err-clause-bad : goal.returns-in-Err-clause-bad
returns-in-Err-clause-bad g c =
    let other = c.from.ensures in
    halted (g.R.Read.remaining c.args.input.now) (g.R.Read.remaining c.loop-number.input)
    c.loop-number.number c.loop-number.addresses.items c.from.result c.loop-number.invariant
    (grind arith)

pub returns-in-Err-add_line-clause-bad : goal.returns-in-Err-add_line-clause-bad
returns-in-Err-add_line-clause-bad g c =
    let left = g.R.Read.remaining c.loop-number.input in
    let later = g.R.Read.remaining c.next_line.new.self in
    line_unread (g.R.Read.remaining c.args.input.now) left later c.loop-number.number
    c.loop-number.addresses.items c.as_slice.result.now c.in-Err-add_line.error
    c.loop-number.invariant
    (subst (IsLineRead left later) (sym c.as_slice.ensures.value)
    (c.in-Ok-true.ensures.read (ap Ok c.in-Ok-true.field-0-test)))
    c.in-Err-add_line.ensures.bad

pub returns-clause-bad : goal.returns-clause-bad
returns-clause-bad g c =
    halted (g.R.Read.remaining c.args.input.now) (g.R.Read.remaining c.loop-number.input)
    c.loop-number.number c.loop-number.addresses.items _ c.loop-number.invariant (grind arith)
