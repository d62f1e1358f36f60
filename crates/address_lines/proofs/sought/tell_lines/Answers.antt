use Rattle.std.proofs.Common.{◌≡◌, ap, Ok, subst, sym, arith, ℕ, List, [], Some}
use Rattle.std.proofs.lemmas.Option.{IfSome_then}
use Rattle.std.specs.Prelude.{IfSome}
use Rattle.address_lists.specs.declared.read.ListError.TheVariants.{Unread}
use Rattle.address_lines.specs.declared.sought.Halt.TheVariants.{Bad}
use Rattle.address_lines.specs.Sought.{AreToldUntil}
use Rattle.line_program.specs.Lines.{IsLineRead}
use Rattle.address_lines.proofs.Told.{all_told, bad_told, line_told, unread_told}
use Rattle.address_lines.proofs.sought.tell_lines.Goals as goal

pub loop-number-preserved : goal.loop-number-preserved
loop-number-preserved g c =
    let left = g.R.Read.remaining c.loop-number.input in
    let later = g.R.Read.remaining c.next_line.new.self in
    line_told c.args.list.now (g.R.Read.remaining c.args.input.now) left later
    (g.W.Write.contents c.args.out.now) (g.W.Write.contents c.loop-number.out)
    (g.W.Write.contents c.tell_line.new.out) c.loop-number.number c.loop-number.has_all c.in-Ok.has
    c.as_slice.result.now c.loop-number.invariant
    (subst (IsLineRead left later) (sym c.as_slice.ensures.value)
    (c.in-Ok-true.ensures.read (ap Ok c.in-Ok-true.field-0-test)))
    c.in-Ok.ensures.told

pub returns-in-Ok-false-clause-told : goal.returns-in-Ok-false-clause-told
returns-in-Ok-false-clause-told g c =
    all_told c.args.list.now (g.R.Read.remaining c.args.input.now)
    (g.R.Read.remaining c.loop-number.input) (g.W.Write.contents c.args.out.now)
    (g.W.Write.contents c.loop-number.out) c.loop-number.number c.loop-number.has_all
    c.loop-number.invariant
    (IfSome_then _ (c.in-Ok-false.ensures.ended (ap Ok c.in-Ok-false.field-0-test))
    (λ (bytes : List ℕ) (none : (bytes ≡ []) × (g.R.Read.remaining c.next_line.new.self ≡ Some [])).
    none.0))

pub returns-in-Err-clause-bad : goal.returns-in-Err-clause-bad
returns-in-Err-clause-bad g c = λ error same.
    let other = c.from.ensures in
    unread_told c.args.list.now (g.R.Read.remaining c.args.input.now)
    (g.R.Read.remaining c.loop-number.input) (g.W.Write.contents c.args.out.now)
    (g.W.Write.contents c.loop-number.out) c.loop-number.number c.loop-number.has_all error
    c.loop-number.invariant (grind arith)

pub returns-in-Err-tell_line-clause-bad : goal.returns-in-Err-tell_line-clause-bad
returns-in-Err-tell_line-clause-bad g c = λ error same.
    let left = g.R.Read.remaining c.loop-number.input in
    let later = g.R.Read.remaining c.next_line.new.self in
    let bad = c.in-Err-tell_line.ensures.bad error same in
    subst (λ out. IfSome (g.R.Read.remaining c.args.input.now) (λ bytes. AreToldUntil
    c.args.list.now bytes (g.W.Write.contents c.args.out.now) (g.W.Write.contents out) error))
    (sym bad.1)
    (bad_told c.args.list.now (g.R.Read.remaining c.args.input.now) left later
    (g.W.Write.contents c.args.out.now) (g.W.Write.contents c.loop-number.out)
    c.loop-number.number c.loop-number.has_all c.as_slice.result.now error
    c.loop-number.invariant
    (subst (IsLineRead left later) (sym c.as_slice.ensures.value)
    (c.in-Ok-true.ensures.read (ap Ok c.in-Ok-true.field-0-test)))
    bad.0)

pub returns-clause-bad : goal.returns-clause-bad
returns-clause-bad g c = λ error same.
    unread_told c.args.list.now (g.R.Read.remaining c.args.input.now)
    (g.R.Read.remaining c.loop-number.input) (g.W.Write.contents c.args.out.now)
    (g.W.Write.contents c.loop-number.out) c.loop-number.number c.loop-number.has_all error
    c.loop-number.invariant (grind arith)

pub returns-in-Err-tell_line-clause-unread : goal.returns-in-Err-tell_line-clause-unread
returns-in-Err-tell_line-clause-unread g c = λ unread.
    let same : c.in-Err-tell_line.halt ≡ Bad Unread = grind arith in
    absurd (c.in-Err-tell_line.ensures.bad Unread same).0
