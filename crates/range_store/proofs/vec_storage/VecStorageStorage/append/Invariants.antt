use Rattle.std.proofs.Common.{◌≡◌, ◌-◌, ◌++◌, length, vec_len, vec_capacity, ◌≤◌}
use Rattle.std.specs.Vec.Iter.{into_iter_items, into_iter_len}
use Rattle.range_store.proofs.vec_storage.VecStorageStorage.append.Given as goal

abbrev pub invariant-loop-item : goal.invariant-loop-item
invariant-loop-item g l =
    record {
      list : l.self.stored.items ++ into_iter_items l.left
          ≡ l.fn.self.stored.items ++ l.fn.added.items;
      capacity : vec_capacity l.self.stored ≡ vec_capacity l.fn.self.stored;
      fits : length (into_iter_items l.left)
          ≤ vec_capacity l.self.stored - vec_len l.self.stored;
    }

abbrev pub decreases-loop-item : goal.decreases-loop-item
decreases-loop-item g l = into_iter_len l.left
