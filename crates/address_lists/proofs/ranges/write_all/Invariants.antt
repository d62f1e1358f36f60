use Rattle.std.proofs.Common.{ℕ, ◌^◌, ◌≤◌, ◌<◌, length}
use Rattle.std.specs.List.{AllByRecursion}
use Rattle.address_text.specs.Texts.{width}
use Rattle.line_program.proofs.Listing.{HasShown}
use Rattle.address_lists.specs.Ranges.{IsRangeText}
use Rattle.address_lists.proofs.ranges.write_all.Given as goal

abbrev pub invariant-loop-range : goal.invariant-loop-range
invariant-loop-range g l =
    HasShown (IsRangeText l.around.before.now l.around.after.now l.spelling l.family) l.fn.ranges l.ranges
    (g.W.Write.contents l.fn.out) (g.W.Write.contents l.out)
    × AllByRecursion (λ (range : ℕ × ℕ). (range.0 ≤ range.1) × (range.1 < 2 ^ width l.family))
    l.ranges

abbrev pub decreases-loop-range : goal.decreases-loop-range
decreases-loop-range g l = length l.ranges
