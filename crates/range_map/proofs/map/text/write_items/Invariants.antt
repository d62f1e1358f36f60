use Rattle.std.proofs.Common.{length}
use Rattle.range_map.proofs.WrittenItems.{HasShown}
use Rattle.range_map.proofs.map.text.write_items.Given as goal

abbrev pub invariant-loop-range : goal.invariant-loop-range
invariant-loop-range g l =
    HasShown g.K.Debug.debug_output g.V.Debug.debug_output g.W.Write.write_str_gives
    (g.C.Storage.items l.stored) l.items l.fn.f l.f

abbrev pub decreases-loop-range : goal.decreases-loop-range
decreases-loop-range g l = length l.items
