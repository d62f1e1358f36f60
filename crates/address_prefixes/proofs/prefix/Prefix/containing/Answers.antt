use Rattle.std.proofs.Common.{◌+◌, ◌-◌, ◌≤◌, bit_and, arith}
use Rattle.std.proofs.lemmas.Grind.{common_steps}
use Rattle.address_prefixes.proofs.Containing.{block, contains}
use Rattle.address_prefixes.proofs.Steps.{powers_fit}
use Rattle.address_prefixes.proofs.prefix.Prefix.containing.Goals as goal

pub at-requires : goal.at-requires
at-requires g c = grind (arith, block)

pub at-requires-2 : goal.at-requires-2
at-requires-2 g c =
    let within : c.args.length ≤ c.WIDTH-2.result = omega arith in
    (block g.met.A.Address.family c.args.address c.known.ensures c.args.length
    c.number-number.result c.greatest_of-rest.result c.WIDTH-2.result within c.WIDTH-2.ensures
    c.number-number.ensures c.greatest_of-rest.ensures).fits

pub overflow_add-first : goal.overflow_add-first
overflow_add-first g c =
    let within : c.args.length ≤ c.WIDTH-2.result = omega arith in
    let fits =
    powers_fit g.A.Address.WIDTH
    (c.number-number.result - bit_and c.number-number.result c.greatest_of-rest.result
    + c.greatest_of-rest.result) g.met.A.Address.family.small
    (block g.met.A.Address.family c.args.address c.known.ensures c.args.length
    c.number-number.result c.greatest_of-rest.result c.WIDTH-2.result within c.WIDTH-2.ensures
    c.number-number.ensures c.greatest_of-rest.ensures).fits in
    grind (arith, common_steps, fits)

pub returns : goal.returns
returns g c =
    let within : c.args.length ≤ c.WIDTH-2.result = omega arith in
    contains g.met.A.Address.family c.args.address c.known.ensures c.args.length
    c.number-number.result c.greatest_of-rest.result c.WIDTH-2.result within c.WIDTH-2.ensures
    c.number-number.ensures c.greatest_of-rest.ensures c.at.result c.at-2.result c.at.ensures
    c.at-2.ensures
