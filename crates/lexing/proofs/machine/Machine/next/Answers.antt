use Rattle.std.proofs.Common.{◌∙◌, sym, refl, ℕ, ◌/◌, Option, Some, length, subst, arith}
use Rattle.std.proofs.lemmas.Option.{slice_get_read}
use Rattle.lexing.specs.MachineSteps.{GoesTo}
use Rattle.lexing.proofs.Running.{below_ascii, goes_by_step, goes_by_row, next_within}
use Rattle.lexing.proofs.machine.Machine.next.Goals as goal

pub returns-in_err-first-clause-goes : goal.returns-in_err-first-clause-goes
returns-in_err-first-clause-goes c =
    let machine = c.args.self.now in
    let steps = machine.states.steps.items in
    let step = c.index.result.now in
    let ascii = below_ascii c.args.c c.is_ascii.result c.is_ascii.ensures c.if-is_ascii.true in
    let at =
    slice_get_read steps (length steps) _ step refl (omega (arith, machine.full)) c.index.ensures in
    goes_by_step machine c.args.state c.args.c c.requires step at c.from_residual.result
    (c.in_err-first.ensures ∙ sym c.from_residual.ensures) ascii

pub returns-in_ok-first-clause-goes : goal.returns-in_ok-first-clause-goes
returns-in_ok-first-clause-goes c =
    let machine = c.args.self.now in
    let steps = machine.states.steps.items in
    let step = c.index.result.now in
    let ascii = below_ascii c.args.c c.is_ascii.result c.is_ascii.ensures c.if-is_ascii.true in
    let at =
    slice_get_read steps (length steps) _ step refl (omega (arith, machine.full)) c.index.ensures in
    goes_by_step machine c.args.state c.args.c c.requires step at (Some _) c.in_ok-first.ensures.0
    ascii

pub returns-in_ok-first-clause-known : goal.returns-in_ok-first-clause-known
returns-in_ok-first-clause-known c =
    next_within c.args.self.now c.args.state c.args.c (Some (c.in_ok-first.first / 256)) c.requires
    (returns-in_ok-first-clause-goes c)

pub returns-in_err-next-clause-goes : goal.returns-in_err-next-clause-goes
returns-in_err-next-clause-goes c =
    let P : Option ℕ → Type 0 = λ next. GoesTo c.args.self.now c.args.state c.args.c next in
    let goes : P c.copied.result = grind (arith, goes_by_row, slice_get_read) in
    subst P (c.in_err-next.was ∙ sym c.from_residual-in_err-next.ensures) goes

pub returns-in_ok-next-clause-goes : goal.returns-in_ok-next-clause-goes
returns-in_ok-next-clause-goes c =
    let P : Option ℕ → Type 0 = λ next. GoesTo c.args.self.now c.args.state c.args.c next in
    let goes : P c.copied.result = grind (arith, goes_by_row, slice_get_read) in
    subst P c.in_ok-next.was goes

pub returns-in_ok-next-clause-known : goal.returns-in_ok-next-clause-known
returns-in_ok-next-clause-known c =
    next_within c.args.self.now c.args.state c.args.c (Some c.in_ok-next.next) c.requires
    (returns-in_ok-next-clause-goes c)
