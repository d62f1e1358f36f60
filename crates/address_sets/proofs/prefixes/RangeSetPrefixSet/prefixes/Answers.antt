use Rattle.btree_range_map.specs.HeldKeys.{held_by_ranges}
use Rattle.btree_range_map.specs.Holding.{box_items}
use Rattle.btree_range_map.specs.KeySets.{HoldsKey}
use Rattle.address_prefixes.proofs.FewestOfRuns.{are_fewest}
use Rattle.address_prefixes.proofs.RunTiles.{are_ascending, are_prefixes, have_just}
use Rattle.address_prefixes.proofs.Runs.{are_spans}
use Rattle.address_sets.proofs.prefixes.RangeSetPrefixSet.prefixes.Goals as goal
use Rattle.std.proofs.Common.{arith}

pub invariant_of-result : goal.invariant_of-result
invariant_of-result g c = grind (arith, are_spans)

pub returns : goal.returns
returns g c =
    let family = g.met.A.Address.family in
    let items = box_items c.args.self.now in
    let held = HoldsKey g.A.MaybeBounded.order items in
    let runs = c.runs_of.result in
    let are = c.runs_of.ensures in
    let by = held_by_ranges g.A.MaybeBounded.order items in
    record {
      exact =
          λ a key.
          let just = have_just family held runs are a key in
          (λ some. (by a).0 (just.0 some), λ holds. just.1 ((by a).1 holds));
      whole = are_prefixes family held runs are;
      ascending = are_ascending family held runs are;
      fewest =
          λ others all just. are_fewest family held runs are others all
          (λ a key. (λ some. (by a).1 ((just a key).0 some), λ q. (just a key).1 ((by a).0 q)));
    }
