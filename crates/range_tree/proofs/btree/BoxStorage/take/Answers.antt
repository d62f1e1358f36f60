use Rattle.std.proofs.Common.{◌≤◌, length, arith}
use Rattle.range_tree.specs.Holding.{box_items, box_offset, IsGood, good_home}
use Rattle.range_tree.proofs.Taking.{one_fewer, room_grows, space_grows, IsReplaced, replaced, replaced_item}
use Rattle.range_tree.proofs.Whole.{edge_within, tree_behind}
use Rattle.range_tree.proofs.btree.BoxStorage.take.Goals as goal
use Rattle.range_tree.proofs.btree.BoxStorage.take.Given.{Over}
use Rattle.range_tree.proofs.btree.BoxStorage.take.Goals.{Start, After-replace_item-item}

within : (g : Over) (c : Start g)
    → box_offset c.args.self.now c.args.edge ≤ length (box_items c.args.self.now)
within g c = edge_within c.requires.edge

pub returns-in-Some-clause-space : goal.returns-in-Some-clause-space
returns-in-Some-clause-space g c =
    let s = c.args.self.now in
    room_grows s c.take_in_leaf-item.new.self (box_offset s c.args.edge) c.requires.some
    (within g (goal.at.returns-in-Some-clause-space g c).Start) c.take_in_leaf-item.ensures.list
    c.take_in_leaf-item.ensures.capacity

-- from above the leaves
pub take_in_leaf-next-requires-clause-edge : goal.take_in_leaf-next-requires-clause-edge
take_in_leaf-next-requires-clause-edge g c =
    (tree_behind c.requires.edge (omega (arith, c.if-edge-gt0.false))).0

pub unreachable-requires : goal.unreachable-requires
unreachable-requires g c =
    grind (arith, tree_behind, edge_within, one_fewer)

pub home-home-requires-clause-some : goal.home-home-requires-clause-some
home-home-requires-clause-some g c =
    let behind = tree_behind c.requires.edge (omega (arith, c.if-edge-gt0.false)) in
    grind arith

pub replace_item-item-requires : goal.replace_item-item-requires
replace_item-item-requires g c =
    let t = c.take_in_leaf-next.new.self in
    let behind = tree_behind c.requires.edge (omega (arith, c.if-edge-gt0.false)) in
    let left = rw c.in-Some-left.is at c.take_in_leaf-next.ensures.edge in
    let good : IsGood t c.in-Some-left.left =
    record { is = left.0; some = omega (arith, left.1, behind.1, c.requires.some) } in
    let home = good_home good in
    rw c.home-home.ensures (record { present = home.present; within = home.within })

replaced_so : (g : Over) (c : After-replace_item-item g)
    → IsReplaced c.args.self.now c.take_in_leaf-next.new.self c.args.edge
    c.replace_item-item.new.self c.in-Some-left.left
replaced_so g c =
    let behind = tree_behind c.requires.edge (omega (arith, c.if-edge-gt0.false)) in
    let left = rw c.in-Some-left.is at c.take_in_leaf-next.ensures.edge in
    replaced c.args.self.now c.take_in_leaf-next.new.self c.args.edge
    (record { leaf = c.args.edge.leaf; path = c.args.edge.path; index = 1 }) c.in-Some-left.left
    c.requires.some (edge_within behind.0) behind.1 c.take_in_leaf-next.ensures.list left.0 left.1
    c.take_in_leaf-next.result.0 c.replace_item-item.new.self c.home-home.result c.home-home.ensures
    c.replace_item-item.ensures.after c.take_in_leaf-next.ensures.capacity
    c.take_in_leaf-next.ensures.removed

pub invariant_of-self : goal.invariant_of-self
invariant_of-self g c =
    let so = replaced_so g (goal.at.invariant_of-self g c).After-replace_item-item in
    let t = c.take_in_leaf-next.new.self in
    record { whole = so.roomy; counted = so.many; levelled = t.levelled; ended = so.ended t.ended }

pub returns : goal.returns
returns g c =
    let s = c.args.self.now in
    let t = c.take_in_leaf-next.new.self in
    let at = goal.at.returns g c in
    let so = replaced_so g at.After-replace_item-item in
    let behind = tree_behind c.requires.edge (omega (arith, c.if-edge-gt0.false)) in
    let left = rw c.in-Some-left.is at c.take_in_leaf-next.ensures.edge in
    record {
      removed = grind (arith, replaced_item, edge_within);
      list = so.items_are;
      space = space_grows s (box_offset s c.args.edge) c.replace_item-item.new.self t.levels t.root
          c.requires.some (within g at.Start) so.items_are so.capacity;
      following = (record { some = left.0.some; edge = so.edge }, so.place_is);
    }
