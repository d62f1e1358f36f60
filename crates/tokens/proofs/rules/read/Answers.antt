use Rattle.std.proofs.Common.{◌≡◌, ◌∙◌, inr, length, arith}
use Rattle.std.proofs.lemmas.List.{length-map}
use Rattle.std.specs.Str.Lines.{lines}
use Rattle.tokens.specs.Heads.{texts_of}
use Rattle.tokens.proofs.Machines.{all_read}
use Rattle.tokens.proofs.rules.read.Goals as goal

pub rules_in-requires-clause-heads : goal.rules_in-requires-clause-heads
rules_in-requires-clause-heads g c =
    rw c.deref-2.ensures.value (rw c.deref.ensures.value at c.in_ok-heads.ensures.numbers)

pub returns-in-Some-clause-modes : goal.returns-in-Some-clause-modes
returns-in-Some-clause-modes g c =
    let items = c.in_ok-heads.heads.names.items in
    let names = texts_of items in
    let rules = c.in_ok-rules.rules in
    let (none, are) = rw c.in-Some.is at c.in_ok-modes.ensures.modes in
    let modes = rw (c.deref.ensures.value, c.in_ok-lines.ensures) at c.in_ok-heads.ensures.modes in
    let read = rw (c.deref-2.ensures.value, c.in_ok-lines.ensures) at c.in_ok-rules.ensures.rules in
    let count = length-map items (λ text. text.now) in
    let same : c.len-count.result ≡ length names =
    omega (arith, c.len-count.ensures, c.in_ok-heads.heads.names.ok.0, count) in (
      names,
      rules.rules.items,
      (modes, all_read names (lines c.args.text.now) rules.no_rule rules.rules.items read none),
      rw same at are,
    )

pub returns-in-Some-clause-warned : goal.returns-in-Some-clause-warned
returns-in-Some-clause-warned g c = λ one.
    let names = texts_of c.in_ok-heads.heads.names.items in
    let rules = c.in_ok-rules.rules in
    let (none, are) = rw c.in-Some.is at c.in_ok-modes.ensures.modes in
    let modes = rw (c.deref.ensures.value, c.in_ok-lines.ensures) at c.in_ok-heads.ensures.modes in
    let read = rw (c.deref-2.ensures.value, c.in_ok-lines.ensures) at c.in_ok-rules.ensures.rules in
    let numbers = rw (c.deref-2.ensures.value, c.in_ok-lines.ensures) at c.in_ok-rules.ensures.numbers in
    let (machine, table, scanner, is_table, (said, warned, appended)) =
    c.in_ok-warn_of_one-in-Some.ensures.one one in (
      machine,
      scanner,
      (
        said,
        (
          names,
          rules.rules.items,
          rules.numbers.items,
          table,
          (modes, all_read names (lines c.args.text.now) rules.no_rule rules.rules.items read none),
          numbers,
          is_table,
          warned,
        ),
        rw (rw c.in-Some.is at c.in_ok-modes.ensures.silent) at appended,
      ),
    )

pub returns-in-Some-clause-silent : goal.returns-in-Some-clause-silent
returns-in-Some-clause-silent g c = λ several.
    c.in_ok-warn_of_one-in-Some.ensures.several several
    ∙ rw c.in-Some.is at c.in_ok-modes.ensures.silent

pub returns-clause-refused : goal.returns-clause-refused
returns-clause-refused g c =
    let items = c.in_ok-heads.heads.names.items in
    let names = texts_of items in
    let modes = rw (c.deref.ensures.value, c.in_ok-lines.ensures) at c.in_ok-heads.ensures.modes in
    let read = rw (c.deref-2.ensures.value, c.in_ok-lines.ensures) at c.in_ok-rules.ensures.rules in
    let numbers = rw (c.deref-2.ensures.value, c.in_ok-lines.ensures) at c.in_ok-rules.ensures.numbers in
    let count = length-map items (λ text. text.now) in
    let same : c.len-count.result ≡ length names =
    omega (arith, c.len-count.ensures, c.in_ok-heads.heads.names.ok.0, count) in
    let (said, complains, appended) =
    rw c.in-None.is at (c.in_ok-modes.ensures.refused (lines c.args.text.now) names same modes read numbers)
    in (said, inr complains, appended)
