use Rattle.std.proofs.Common.{[], map, nat_eq, subst}
use Rattle.btree_range_map.specs.MapExtending.{AreBoundAfter}
use Rattle.btree_range_map.specs.Iteration.{pair_item}
use Rattle.btree_range_map.specs.Holding.{box_items}
use Rattle.range_handles.proofs.InOrder.{bound_at_once}
use Rattle.range_handles.proofs.in_order.map_in_order.Goals as goal

pub returns-in-Ok-from_sorted : goal.returns-in-Ok-from_sorted
returns-in-Ok-from_sorted g c =
    let order = g.K.MaybeBounded.order in
    let made = c.in-Ok-from_sorted.ensures in
    let items = box_items c.in-Ok-from_sorted.made in
    subst (λ said. AreBoundAfter order nat_eq [] items said) c.in-Ok.ensures
    (bound_at_once order items (map pair_item c.in-Ok.pairs.items)
    (c.stored_lists_bind_once.ensures items made.canonical.stored) made.bound)
