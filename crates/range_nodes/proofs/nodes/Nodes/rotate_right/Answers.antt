use Rattle.std.proofs.Common.{sym, subst}
use Rattle.std.proofs.Math.ListN.{set}
use Rattle.range_nodes.specs.Heap.{HasNode, Writes, node_items, node_children}
use Rattle.range_nodes.proofs.Heaps.{item_written}
use Rattle.range_nodes.proofs.Siblings.{rotated_right}
use Rattle.range_nodes.proofs.nodes.Nodes.rotate_right.Goals as goal

pub returns : goal.returns
returns g c =
    let t = c.take_beside-up.new.self in
    let u = c.replace_item-down.new.self in
    let n = c.args.number in
    let i = c.args.index in
    let up = c.take_beside-up.result.0 in
    let pair = c.requires.pair in
    let one = rw (c.item_count-end.ensures, c.child_at-left.ensures) at
    c.take_beside-up.ensures.rest in
    let present : HasNode t n = rw (one.others n (λ e. pair.left_apart (sym e))) pair.parent in
    let two = subst (λ h. Writes t h n (set (node_items t n) i up)
    (node_children t n)) (sym c.replace_item-down.ensures.after) (item_written t n i up present) in
    let three = rw (
      c.take_beside-up.ensures.child,
      c.item_count-end.ensures,
      c.child_at-left.ensures,
      c.child_at-right.ensures,
    ) at c.put.ensures in
    let up_is = rw (c.item_count-end.ensures, c.child_at-left.ensures) at
    c.take_beside-up.ensures.item in
    rotated_right t u c.put.new.self pair c.replace_item-down.result up up_is c.requires.some
    c.replace_item-down.ensures.before one two three
