use Rattle.std.proofs.Common.{◌^◌, ◌≤◌, arith}
use Rattle.std.proofs.lemmas.Grind.{common_steps}
use Rattle.std.proofs.Math.Pow.{pow_mono}
use Rattle.address_prefixes.proofs.span.first_number.Goals as goal

pub overflow_add-result : goal.overflow_add-result
overflow_add-result g c =
    let small : 2 ^ g.A.Address.WIDTH ≤ 2 ^ 128 = pow_mono g.met.A.Address.family.small in
    grind (arith, common_steps, small)
