use Rattle.std.proofs.Common.{◌≡◌, refl, subst, length, Some, arith}
use Rattle.std.specs.List.{slice_get}
use Rattle.std.proofs.lemmas.Bool.Decides.{nat_tests}
use Rattle.std.proofs.lemmas.Option.{slice_get_read}
use Rattle.lexing.proofs.table.Table.is_of_rule.Goals as goal

pub returns-in-Some : goal.returns-in-Some
returns-in-Some c =
    let states = c.deref.result.now in
    let found = c.in-Some.ensures.lookup in
    let there =
    subst (λ xs. slice_get xs c.args.state ≡ Some c.in-Some.state.now) c.deref.ensures.value
    (slice_get_read states (length states) c.args.state c.in-Some.state.now refl found.3.0 found.1) in
    rw there (grind (arith, nat_tests))
