use Rattle.std.proofs.Common.{◌≡◌, ◌≤◌, ◌++◌, length}
use Rattle.range_bulk.proofs.append.move_all.Given as goal

abbrev pub invariant-loop-item : goal.invariant-loop-item
invariant-loop-item g l =
    let items = g.C.Storage.items in
    let others = g.D.Storage.items in
    record {
      list : items l.stored ++ others l.others ≡ items l.initial.stored ++ others l.initial.others;
      room : length (others l.others) ≤ g.C.Storage.room l.stored;
    }

abbrev pub decreases-loop-item : goal.decreases-loop-item
decreases-loop-item g l = length (g.D.Storage.items l.others)
