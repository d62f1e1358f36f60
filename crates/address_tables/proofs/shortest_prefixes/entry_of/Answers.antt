use Rattle.std.proofs.Common.{◌≡◌, ◌+◌, ◌-◌, ◌^◌, ◌≤◌, arith}
use Rattle.std.proofs.Math.Pow.{pow_mono}
use Rattle.address_tables.proofs.shortest_prefixes.entry_of.Goals as goal

pub overflow_add-entry : goal.overflow_add-entry
overflow_add-entry g c =
    let fits = c.requires.block.2 in
    let small = g.met.A.Address.family.small in
    let most : 2 ^ g.A.Address.WIDTH ≤ 2 ^ 128 = pow_mono small in
    let rest = rw c.WIDTH.ensures at c.greatest_of-rest.ensures in omega (arith, fits, most, rest)
