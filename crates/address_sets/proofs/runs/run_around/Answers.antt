use Rattle.btree_range_map.specs.Holding.{box_items}
use Rattle.address_sets.proofs.StoredRuns.{has_span, run_is}
use Rattle.address_sets.proofs.runs.run_around.Goals as goal

pub span_of-requires : goal.span_of-requires
span_of-requires g c =
    has_span g.met.A.Address.family (box_items c.args.set.now) c.in-Some.range.now
    c.iter-ranges.ensures.canonical.stored.known (c.iter-ranges.ensures.canonical.coarse g.met.A.Complete.complete)
    c.in-Some.ensures.stored.1

pub returns-in-Some : goal.returns-in-Some
returns-in-Some g c =
    rw c.span_of.ensures (run_is g.met.A.Address.family (box_items c.args.set.now)
    c.in-Some.range.now c.args.address c.iter-ranges.ensures.canonical.stored.known
    (c.iter-ranges.ensures.canonical.coarse g.met.A.Complete.complete) c.in-Some.ensures.stored.1
    c.known.ensures c.in-Some.ensures.stored.0)
