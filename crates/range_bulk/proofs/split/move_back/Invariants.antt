use Rattle.range_bulk.proofs.Common.{◌≡◌, ◌≤◌, ◌++◌, length, Included, position_cmp, start_position, Le, Every, item_lower}
use Rattle.range_bulk.proofs.split.move_back.Given as goal

abbrev pub invariant-loop-last : goal.invariant-loop-last
invariant-loop-last g l =
    let items = g.C.Storage.items in
    let order = g.K.MaybeBounded.order in
    record {
      list : items l.stored ++ items l.others ≡ items l.initial.stored;
      room : length (items l.others) ≤ g.C.Storage.room l.stored;
      from : Every (λ i. Le (position_cmp order.cmp) (start_position order (Included l.fn.key))
          (item_lower order i)) (items l.others);
    }

abbrev pub decreases-loop-last : goal.decreases-loop-last
decreases-loop-last g l = length (g.C.Storage.items l.stored)
