use Rattle.range_bulk.proofs.Common.{◌≡◌, ◌≤◌, ◌++◌, length, map, Position, item_of}
use Rattle.range_bulk.proofs.JoinedItems.{IsBuilt, RisesFrom}
use Rattle.range_bulk.proofs.sorted.list_of.Given as goal

abbrev pub invariant-loop-range : goal.invariant-loop-range
invariant-loop-range g l =
    let order = g.K.MaybeBounded.order in
    let item = item_of g.R.AsRange.range in
    record {
      parted : l.yielded ++ l.range-iterator.rest.items ≡ l.fn.pairs.items;
      built : (m : Position g.row.K.Denot)
          × IsBuilt order g.V.PartialEq.eq m (map item l.yielded) l.items.items
          × RisesFrom order m (map item l.range-iterator.rest.items);
      few : length l.items.items ≤ length l.yielded;
    }
