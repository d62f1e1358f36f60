use Rattle.std.proofs.Common.{◌+◌, arith}
use Rattle.std.proofs.lemmas.Grind.{common_steps}
use Rattle.address_prefixes.proofs.Steps.{divided, is_bounded, is_inside, powers_fit}
use Rattle.address_prefixes.proofs.divide.divide.Goals as goal
use Rattle.std.proofs.Common.{rules}

pub greatest_of-requires : goal.greatest_of-requires
greatest_of-requires g c = grind (arith, is_bounded)

pub overflow_add-end : goal.overflow_add-end
overflow_add-end g c =
    let inside = is_inside c.requires.0 c.WIDTH.ensures c.free_bits-free.ensures
    c.greatest_of.result c.greatest_of.ensures in
    let last = c.requires.1 in
    let fits = powers_fit g.A.Address.WIDTH (c.args.first + c.greatest_of.result)
    g.met.A.Address.family.small (omega (arith, inside, last)) in
    grind (arith, common_steps, fits)

pub at-requires-2 : goal.at-requires-2
at-requires-2 g c =
    let inside = is_inside c.requires.0 c.WIDTH.ensures c.free_bits-free.ensures
    c.greatest_of.result c.greatest_of.ensures in
    let last = c.requires.1 in omega (arith, inside, last)

pub overflow_sub-prefix : goal.overflow_sub-prefix
overflow_sub-prefix g c = grind (arith, is_bounded)

pub part_after-requires-clause-whole : goal.part_after-requires-clause-whole
part_after-requires-clause-whole g c = search (rules, is_inside)

pub returns-clause-tiles : goal.returns-clause-tiles
returns-clause-tiles g c = grind (arith, divided)
