use Rattle.std.proofs.Common.{◌^◌, ◌++◌, length}
use Rattle.btree_range_map.specs.Holding.{box_items}
use Rattle.btree_range_map.specs.KeySets.{HoldsKey}
use Rattle.address_prefixes.specs.Runs.{AreRuns}
use Rattle.address_covers.proofs.blocks.runs_in.Given as goal

-- those so far and those that are left
abbrev pub invariant-loop-run : goal.invariant-loop-run
invariant-loop-run g l =
    AreRuns (λ n. HoldsKey g.A.MaybeBounded.order (box_items l.fn.set) (g.A.Address.at n))
    (2 ^ g.A.Address.WIDTH) (l.found.items ++ l.runs)

abbrev pub decreases-loop-run : goal.decreases-loop-run
decreases-loop-run g l = length l.runs
