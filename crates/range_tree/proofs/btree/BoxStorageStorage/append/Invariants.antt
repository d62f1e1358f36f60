use Rattle.std.proofs.Common.{◌≡◌, ◌+◌, ◌≤◌, ◌++◌, [], length}
use Rattle.std.specs.Prelude.{MatchOption}
use Rattle.range_tree.specs.Holding.{box_items, box_offset, box_room, IsBoxEdge}
use Rattle.range_tree.proofs.btree.BoxStorageStorage.append.Given as goal

abbrev pub invariant-loop-item : goal.invariant-loop-item
invariant-loop-item g l =
    record {
      parted : l.yielded ++ l.item-iterator.rest.items ≡ l.fn.added.items;
      listed : box_items l.self ≡ box_items l.fn.self ++ l.yielded;
      room : box_room l.fn.self ≡ box_room l.self + length l.yielded;
      space : length l.item-iterator.rest.items ≤ box_room l.self;
      at_end : MatchOption l.end (box_items l.self ≡ [])
          (λ g. IsBoxEdge l.self g × (box_offset l.self g ≡ length (box_items l.self)));
    }
