use Rattle.std.proofs.Common.{◌≡◌, ◌-◌, ◌*◌}
use Rattle.range_store.specs.Counting.{AddsSteps}
use Rattle.range_tree.specs.declared.btree.searching.TheConstants.{MAX_ASKS}
use Rattle.range_tree.proofs.Descending.{Descent}
use Rattle.range_tree.proofs.btree.searching.search_below.Given as goal

abbrev pub invariant-down : goal.invariant-down
invariant-down g l =
    Descent (g.P.Probe.test l.initial.probe) l.nodes l.below l.number l.left l.at l.path l.weight
    × (g.P.Probe.test l.probe ≡ g.P.Probe.test l.initial.probe)
    × AddsSteps (g.P.Probe.steps_taken l.initial.probe) (g.P.Probe.steps_taken l.probe)
    (l.below - l.left) (MAX_ASKS * (l.below - l.left))

abbrev pub decreases-down : goal.decreases-down
decreases-down g l = l.left
