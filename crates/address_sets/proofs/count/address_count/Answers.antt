use Rattle.std.proofs.Common.{◌≤◌, ◌^◌, ◌≡◌, map, MatchOption, subst, sym}
use Rattle.std.specs.List.{AllByRecursion}
use Rattle.btree_range_map.specs.FreeRanges.{item_ranges}
use Rattle.btree_range_map.specs.KeySets.{HoldsKey}
use Rattle.address_prefixes.specs.Spans.{HasSpan, span}
use Rattle.address_sets.specs.Counts.{total}
use Rattle.address_sets.proofs.Counts.{count_is}
use Rattle.address_sets.proofs.Sets.{have_spans}
use Rattle.address_sets.proofs.StoredRuns.{are_runs}
use Rattle.address_sets.proofs.count.address_count.Goals as goal

pub counted-requires : goal.counted-requires
counted-requires g c =
    subst (λ ranges. AllByRecursion (HasSpan g.A.Address.number g.A.Address.WIDTH) ranges)
    (sym c.iter.ensures.ranges)
    (have_spans g.met.A.Address.family (g.C.Storage.items c.args.set.now)
    c.iter.ensures.canonical.stored.known (c.iter.ensures.canonical.coarse g.met.A.Complete.complete))

pub returns : goal.returns
returns g c =
    let items = g.C.Storage.items c.args.set.now in
    let shown = map (span g.A.Address.number g.A.Address.WIDTH) in
    count_is g.met.A.Address.family (HoldsKey g.A.MaybeBounded.order items)
    (shown (item_ranges items))
    (are_runs g.met.A.Address.family items c.iter.ensures.canonical.stored.known
    (c.iter.ensures.canonical.coarse g.met.A.Complete.complete))
    c.counted.result
    (subst (λ ranges. MatchOption c.counted.result (2 ^ 128 ≤ total (shown ranges))
    (λ n. n ≡ total (shown ranges))) c.iter.ensures.ranges c.counted.ensures)
