use Rattle.std.proofs.Common.{◌≡◌, inl, inr, arith}
use Rattle.std.proofs.lemmas.Bool.{cases_eq}
use Rattle.std.proofs.lemmas.Result.{err_from_is_err_and}
use Rattle.lexing_mode_patterns.proofs.build.machines_of.Goals as goal

pub returns-in_err-machine_of-clause-refused : goal.returns-in_err-machine_of-clause-refused
returns-in_err-machine_of-clause-refused c =
    grind (arith, err_from_is_err_and, c.in_err-machine_of.ensures.refused c.args.count c.requires)

pub loop-mode-init : goal.loop-mode-init
loop-mode-init c = record {
  count = c.in_ok-modes.ensures.one;
  scanners = λ mode within. let is : mode ≡ 0 = omega (arith, within) in
      rw is (c.in_ok-machine_of.field-0, c.in_ok-modes.ensures.scanner, c.in_ok-machine_of.ensures.machine);
}

pub returns-in_err-machine_of-2-clause-refused : goal.returns-in_err-machine_of-2-clause-refused
returns-in_err-machine_of-2-clause-refused c =
    grind (
      arith,
      err_from_is_err_and,
      c.in_err-machine_of-2.ensures.refused c.args.count c.loop-mode-test.true,
    )

pub loop-mode-preserved : goal.loop-mode-preserved
loop-mode-preserved c =
    let was = c.loop-mode.invariant in
    let at = c.loop-mode.mode in
    let added = c.in_ok-add_mode.ensures in
    let same : c.in_ok-add_mode.field-0 ≡ at = omega (arith, added.number, was.count) in
    record {
      count = omega (arith, added.count, was.count);
      scanners = λ mode within. elim (cases_eq mode at) [
        | inl is ↦
            rw is (
              c.in_ok-machine_of-2.field-0,
              rw same at added.scanner,
              c.in_ok-machine_of-2.ensures.machine,
            )
        | inr apart ↦
            let (machine, of, is) = was.scanners mode (omega (arith, within, apart)) in
            (machine, added.scanners mode machine of, is)
      ];
    }

pub returns-clause-scanners : goal.returns-clause-scanners
returns-clause-scanners c = λ mode within.
    c.loop-mode.invariant.scanners mode (omega (arith, within, c.loop-mode-test.false))
