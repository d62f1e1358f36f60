use Rattle.std.proofs.Common.{◌≡◌, ◌+◌, ◌≤◌, ◌++◌, length}
use Rattle.std.specs.Vec.Iter.{into_iter_items, into_iter_len}
use Rattle.range_store.proofs.storage.Storage.append.Given as goal

abbrev pub invariant-loop-item : goal.invariant-loop-item
invariant-loop-item g l =
    record {
      list : g.Self.Storage.items l.self ++ into_iter_items l.left
          ≡ g.Self.Storage.items l.fn.self ++ l.fn.added.items;
      space : g.Self.Storage.room l.self + length l.fn.added.items
          ≡ g.Self.Storage.room l.fn.self + length (into_iter_items l.left);
      fits : length (into_iter_items l.left) ≤ g.Self.Storage.room l.self;
    }

abbrev pub decreases-loop-item : goal.decreases-loop-item
decreases-loop-item g l = into_iter_len l.left
