use Rattle.std.proofs.Common.{◌≡◌, ◌≢◌, refl, subst, length, Some, take, arith}
use Rattle.std.specs.List.{slice_get}
use Rattle.std.proofs.lemmas.Option.{slice_get_read}
use Rattle.line_program.proofs.Listing.{on_ok_as}
use Rattle.lexing_patterns.specs.declared.error.PatternError.TheVariants.{Memory}
use Rattle.tokens.proofs.Machines.{first_fault, tells_of_line}
use Rattle.tokens.proofs.rules.show_bad_rule.Goals as goal

pub returns-in_ok-show_line-in-Some-Some : goal.returns-in_ok-show_line-in-Some-Some
returns-in_ok-show_line-in-Some-Some g c = λ all names modes are.
    let i = c.args.bad.rule in
    let number = c.in-Some-Some.number.now in
    let rule = c.in-Some-Some.rule.now in
    let numbers = c.deref.result.now in
    let rules = c.deref-2.result.now in
    let found = c.in-Some-Some.ensures.lookup in
    let also = c.in-Some-Some.ensures'.lookup in
    let at =
    subst (λ ns. slice_get ns i ≡ Some number) c.deref.ensures.value
    (slice_get_read numbers (length numbers) i number refl found.3.0 found.1) in
    let there =
    subst (λ rs. slice_get rs i ≡ Some rule) c.deref-2.ensures.value
    (slice_get_read rules (length rules) i rule refl also.3.0 also.1) in
    let not_memory : c.args.bad.error ≢ Memory = grind arith in
    let (patterns, taken, numbered) =
    first_fault names all c.args.rules.now.rules.items c.args.rules.now.numbers.items c.args.bad number rule
    are at there not_memory c.requires in
    on_ok_as c.show_pattern.result _ _
    (λ shown. let (said, tells, appended) =
    tells_of_line c.args.path.now number _ _ _ c.in_ok-show_line-in-Some-Some.ensures shown in (
      said,
      (
        names,
        number,
        take i c.args.rules.now.rules.items,
        patterns,
        modes,
        tells,
        taken,
        numbered,
      ),
      appended,
    ))
    c.show_pattern.ensures
