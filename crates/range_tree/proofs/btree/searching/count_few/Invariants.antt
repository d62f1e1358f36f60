use Rattle.std.proofs.Common.{◌≡◌}
use Rattle.range_tree.proofs.Front.{Narrowed}
use Rattle.range_tree.proofs.btree.searching.count_few.Given as goal

abbrev pub invariant-loop-left : goal.invariant-loop-left
invariant-loop-left g l =
    Narrowed (g.P.Probe.test l.initial.probe) l.items l.low l.left
    (g.P.Probe.steps_taken l.initial.probe) (g.P.Probe.steps_taken l.probe)
    × (g.P.Probe.test l.probe ≡ g.P.Probe.test l.initial.probe)

abbrev pub decreases-loop-left : goal.decreases-loop-left
decreases-loop-left g l = l.left
