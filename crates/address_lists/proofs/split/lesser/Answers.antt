use Rattle.std.proofs.Common.{◌≡◌, None, Some, arith, rules, subst}
use Rattle.address_lists.specs.Split.{IsLeastServing}
use Rattle.address_lists.proofs.Serving.{is_first, is_lesser, passes_by, stays_least}
use Rattle.address_lists.proofs.split.lesser.Goals as goal

pub returns-then-length-prefix_length : goal.returns-then-length-prefix_length
returns-then-length-prefix_length c = grind (arith, passes_by)

pub returns-in-Some : goal.returns-in-Some
returns-in-Some c = λ lengths so_far.
    let is : c.args.least ≡ Some c.in-Some.found = search rules in
    stays_least c.args.family c.args.prefix_length lengths c.args.length c.in-Some.found
    c.if-found-length.true
    (subst (IsLeastServing lengths c.args.family c.args.prefix_length) is so_far)

pub returns-in_default : goal.returns-in_default
returns-in_default c = λ lengths so_far.
    let is : c.args.least ≡ Some c.in-Some.found = search rules in
    is_lesser c.args.family c.args.prefix_length lengths c.args.length c.in-Some.found
    (omega (arith, c.if-length-prefix_length.false))
    (omega (arith, c.width.ensures, c.if-width-length.false))
    (omega (arith, c.if-found-length.false))
    (subst (IsLeastServing lengths c.args.family c.args.prefix_length) is so_far)

pub returns-in_default-2 : goal.returns-in_default-2
returns-in_default-2 c = λ lengths so_far.
    let is : c.args.least ≡ None = search rules in
    is_first c.args.family c.args.prefix_length lengths c.args.length
    (omega (arith, c.if-length-prefix_length.false))
    (omega (arith, c.width.ensures, c.if-width-length.false))
    (subst (IsLeastServing lengths c.args.family c.args.prefix_length) is so_far)
