use Rattle.std.proofs.Common.{◌-◌, ◌^◌}
use Rattle.address_text.specs.Texts.{prefix_line, width}
use Rattle.address_lists.proofs.Series.{AreWritten}
use Rattle.address_lists.proofs.split.write_parts.Given as goal

abbrev pub invariant-loop-network : goal.invariant-loop-network
invariant-loop-network g l =
    AreWritten (λ n. prefix_line l.around.before.now l.around.after.now l.family n l.length) (2 ^ (width l.family - l.length))
    (2 ^ (l.length - l.shorter)) l.first l.last l.network (g.W.Write.contents l.fn.out)
    (g.W.Write.contents l.out)

abbrev pub decreases-loop-network : goal.decreases-loop-network
decreases-loop-network g l = l.last - l.network
