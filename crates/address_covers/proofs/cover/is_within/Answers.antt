use Rattle.std.proofs.Common.{◌↔◌, ◌≤◌, arith, length}
use Rattle.std.proofs.iter.Rest.{running}
use Rattle.std.specs.Prelude.{IsTrue}
use Rattle.btree_range_map.specs.Holding.{box_items}
use Rattle.address_covers.proofs.Itself.{few_within}
use Rattle.address_covers.proofs.cover.is_within.Goals as goal

pub returns : goal.returns
returns g c =
    let few : IsTrue c.is_none.result ↔ (length c.prefixes.result ≤ c.args.most) = grind (arith, running) in
    few_within g.met.A.Address.family (box_items c.args.set.now) c.args.most c.prefixes.result
    c.prefixes.ensures.whole c.prefixes.ensures.exact c.prefixes.ensures.fewest c.is_none.result few
