use Rattle.std.proofs.Common.{◌^◌, map, subst, sym}
use Rattle.std.specs.List.{AllByRecursion}
use Rattle.btree_range_map.specs.Holding.{box_items}
use Rattle.btree_range_map.specs.KeySets.{HoldsKey}
use Rattle.address_prefixes.specs.Runs.{AreRuns}
use Rattle.address_prefixes.specs.Spans.{HasSpan, span}
use Rattle.address_sets.proofs.StoredRuns.{are_runs}
use Rattle.address_sets.proofs.Sets.{have_spans}
use Rattle.address_sets.proofs.runs.runs_of.Goals as goal

pub invariant_of-result : goal.invariant_of-result
invariant_of-result g c =
    subst (λ ranges. AllByRecursion (HasSpan g.A.Address.number g.A.Address.WIDTH) ranges)
    (sym c.iter.ensures.ranges)
    (have_spans g.met.A.Address.family (box_items c.args.set.now)
    c.iter.ensures.canonical.stored.known (c.iter.ensures.canonical.coarse g.met.A.Complete.complete))

pub returns : goal.returns
returns g c =
    subst (λ ranges. AreRuns
    (λ n. HoldsKey g.A.MaybeBounded.order (box_items c.args.set.now) (g.A.Address.at n))
    (2 ^ g.A.Address.WIDTH) (map (span g.A.Address.number g.A.Address.WIDTH) ranges))
    (sym c.iter.ensures.ranges)
    (are_runs g.met.A.Address.family (box_items c.args.set.now)
    c.iter.ensures.canonical.stored.known (c.iter.ensures.canonical.coarse g.met.A.Complete.complete))
