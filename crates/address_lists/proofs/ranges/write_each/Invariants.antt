use Rattle.std.proofs.Common.{◌+◌, ◌-◌}
use Rattle.address_text.specs.Texts.{address_line}
use Rattle.address_lists.proofs.Series.{AreWritten}
use Rattle.address_lists.proofs.ranges.write_each.Given as goal

abbrev pub invariant-loop-number : goal.invariant-loop-number
invariant-loop-number g l =
    AreWritten (address_line l.around.before.now l.around.after.now l.family) 1 (l.last + 1 - l.first) l.first l.last l.number
    (g.W.Write.contents l.fn.out) (g.W.Write.contents l.out)

abbrev pub decreases-loop-number : goal.decreases-loop-number
decreases-loop-number g l = l.last - l.number
