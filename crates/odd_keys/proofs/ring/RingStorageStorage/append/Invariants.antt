use Rattle.std.proofs.Common.{◌≡◌, ◌+◌, ◌≤◌, ◌++◌, length}
use Rattle.std.specs.Vec.Iter.{into_iter_items, into_iter_len}
use Rattle.odd_keys.proofs.ring.RingStorageStorage.append.Given as goal

abbrev pub invariant-loop-item : goal.invariant-loop-item
invariant-loop-item g l =
    record {
      list : l.self.stored.items ++ into_iter_items l.left
          ≡ l.fn.self.stored.items ++ l.fn.added.items;
      space : l.self.room + length l.fn.added.items
          ≡ l.fn.self.room + length (into_iter_items l.left);
      fits : length (into_iter_items l.left) ≤ l.self.room;
    }

abbrev pub decreases-loop-item : goal.decreases-loop-item
decreases-loop-item g l = into_iter_len l.left
