use Rattle.std.proofs.Common.{◌≡◌, ◌+◌, ◌-◌, ◌^◌, ◌≤◌, OnOk, ap, subst, ◌∙◌, arith}
use Rattle.std.proofs.Math.Pow.{pow_mono}
use Rattle.btree_range_map.specs.Holding.{box_items}
use Rattle.btree_range_map.specs.KeySets.{HoldsAlso}
use Rattle.btree_range_map.specs.Names.{range_inclusive}
use Rattle.address_covers.proofs.blocks.add_block.Goals as goal

pub overflow_add-block : goal.overflow_add-block
overflow_add-block g c =
    let fits = c.requires.block.2 in
    let small = g.met.A.Address.family.small in
    let most : 2 ^ g.A.Address.WIDTH ≤ 2 ^ 128 = pow_mono small in
    let rest = rw c.WIDTH.ensures at c.greatest_of-rest.ensures in omega (arith, fits, most, rest)

pub returns : goal.returns
returns g c =
    let rest = rw c.WIDTH.ensures at c.greatest_of-rest.ensures in
    let rest_is : c.greatest_of-rest.result ≡ 2 ^ (g.A.Address.WIDTH - c.args.block.length) - 1 = omega (arith, rest) in
    subst (λ r. OnOk c.insert.result (HoldsAlso g.A.MaybeBounded.order (box_items c.args.set.now)
    (box_items c.insert.new.set) r))
    (ap (λ a. range_inclusive a c.at-last.result) c.at.ensures
    ∙ ap (λ b. range_inclusive (g.A.Address.at c.args.block.network) b) (c.at-last.ensures
    ∙ ap (λ k. g.A.Address.at (c.args.block.network + k)) rest_is))
    c.insert.ensures
