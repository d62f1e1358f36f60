use Rattle.std.specs.Prelude.{◌≡◌, ◌+◌, length, map}
use Rattle.std.specs.List.{AllByRecursion}
use Rattle.address_prefixes.specs.Spans.{HasSpan, span}
use Rattle.address_sets.specs.Counts.{total}
use Rattle.address_sets.proofs.count.counted.Given as goal

abbrev pub invariant-loop-range : goal.invariant-loop-range
invariant-loop-range g l =
    AllByRecursion (HasSpan g.A.Address.number g.A.Address.WIDTH) l.ranges
    × (l.count + total (map (span g.A.Address.number g.A.Address.WIDTH) l.ranges)
    ≡ total (map (span g.A.Address.number g.A.Address.WIDTH) l.fn.ranges))

abbrev pub decreases-loop-range : goal.decreases-loop-range
decreases-loop-range g l = length l.ranges
