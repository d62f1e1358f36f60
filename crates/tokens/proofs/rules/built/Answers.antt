use Rattle.std.proofs.Common.{◌≡◌, refl, inl, inr, codes, decimal, arith}
use Rattle.tokens.specs.Rules.{too_many_states}
use Rattle.tokens.proofs.Lists.{append_four}
use Rattle.tokens.proofs.Machines.{all_read}
use Rattle.tokens.proofs.rules.built.Goals as goal

pub show_bad_rule-requires : goal.show_bad_rule-requires
show_bad_rule-requires g c = rw (c.deref.ensures.value, c.in-Err-Rule.field-0-is) at c.in-Err-Rule.ensures.refused

pub returns-in-Ok-modes-clause-modes : goal.returns-in-Ok-modes-clause-modes
returns-in-Ok-modes-clause-modes g c =
    let same : c.in-Ok.count ≡ c.args.count = omega (arith, c.in-Ok.ensures) in
    record {
      count = rw same at c.in-Ok-modes.ensures.count;
      scanners = rw (c.deref.ensures.value, same) at c.in-Ok-modes.ensures.scanners;
      changes = rw (c.deref.ensures.value, same) at c.in-Ok-modes.ensures.changes;
    }

pub returns-in_ok-show_bad_rule-in-Err-Rule-clause-refused :
    goal.returns-in_ok-show_bad_rule-in-Err-Rule-clause-refused
returns-in_ok-show_bad_rule-in-Err-Rule-clause-refused g c = λ all names count modes read numbers.
    let (said, tells, appended) = c.in_ok-show_bad_rule-in-Err-Rule.ensures all names modes numbers in
    (said, inl tells, appended)

pub returns-in_ok-writeln-in-Err-TooManyStates-clause-refused :
    goal.returns-in_ok-writeln-in-Err-TooManyStates-clause-refused
returns-in_ok-writeln-in-Err-TooManyStates-clause-refused g c = λ all names count modes read numbers.
    let same : c.in-Ok.count ≡ c.args.count = omega (arith, c.in-Ok.ensures) in
    let (within, large) =
    rw (c.deref.ensures.value, c.in-Err-TooManyStates.field-0-is) at c.in-Err-TooManyStates.ensures.refused in (
      too_many_states c.args.path.now,
      inr (
        refl,
        (
          names,
          c.args.rules.now.rules.items,
          _,
          modes,
          all_read names all c.args.rules.now.no_rule c.args.rules.now.rules.items read c.requires,
          omega (arith, within, same, count),
          large,
        ),
      ),
      rw (append_four c.args.path.now (codes ": the rules need more than ") (decimal 10000)
          (codes " states\n")) c.in_ok-writeln-in-Err-TooManyStates.ensures.bytes,
    )
