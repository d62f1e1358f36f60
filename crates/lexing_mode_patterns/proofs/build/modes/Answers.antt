use Rattle.std.proofs.Common.{arith}
use Rattle.std.proofs.lemmas.Result.{err_from_is_err_and}
use Rattle.lexing_mode_patterns.proofs.build.modes.Goals as goal

pub returns-in_err-check_modes-clause-refused : goal.returns-in_err-check_modes-clause-refused
returns-in_err-check_modes-clause-refused c =
    grind (arith, err_from_is_err_and, c.in_err-check_modes.ensures.refused c.args.budget)

pub returns-clause-scanners : goal.returns-clause-scanners
returns-clause-scanners c = λ mode within.
    let (machine, of, is) = c.in_ok-modes.ensures.scanners mode within in
    (machine, c.in_ok-set_changes.ensures.scanners mode machine of, is)
