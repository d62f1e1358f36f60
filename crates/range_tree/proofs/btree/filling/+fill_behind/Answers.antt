use Rattle.std.proofs.Common.{◌≡◌, ◌+◌, ◌<◌, ◌≤◌, length, ap, ◌∙◌, arith}
use Rattle.range_nodes.specs.Heap.{node_child, node_items}
use Rattle.range_nodes.specs.declared.nodes.TheConstants.{CAPACITY, MIN_LEN}
use Rattle.range_tree.specs.Edges.{turn, inside}
use Rattle.range_tree.specs.Nodes.{child_size}
use Rattle.range_tree.proofs.Edges.{edge_inside, leaf_is}
use Rattle.range_tree.proofs.Filling.{behind_edge, behind_refills, kid_room, kids_levelled, refills_owned, refills_then}
use Rattle.range_tree.proofs.InLeaf.{leaf_of_edge}
use Rattle.range_tree.proofs.Rank.{kid_shaped}
use Rattle.range_tree.proofs.Rotating.{has_pair}
use Rattle.range_tree.proofs.btree.filling.+fill_behind.Goals as goal

pub item_count-many-requires : goal.item_count-many-requires
item_count-many-requires g t c =
    (leaf_of_edge 1 c.args.edge c.requires.shaped c.requires.edge).present

pub item_count-requires : goal.item_count-requires
item_count-requires g t c =
    let low : c.first_turn-index.result + 1 ≤ length (node_items c.args.nodes.now c.args.number) =
    omega (arith, c.first_turn-index.ensures, c.requires.earlier) in
    rw c.child_at-behind.ensures
    (kid_shaped 0 (c.first_turn-index.result + 1) c.requires.shaped low).node.present

pub rotate_right-requires : goal.rotate_right-requires
rotate_right-requires g t c =
    let i = c.first_turn-index.result in
    let low : i < length (node_items c.args.nodes.now c.args.number) =
    omega (arith, c.first_turn-index.ensures, c.requires.earlier) in
    let left = kid_shaped 0 i c.requires.shaped (omega (arith, low)) in
    record {
      pair = has_pair (kids_levelled 0 i c.requires.shaped c.requires.owned low);
      some = omega (arith, left.node.enough);
      room = kid_room (i + 1) c.requires.shaped (omega (arith, low)) c.child_at-behind.ensures
          c.item_count.ensures c.if-item_count-eq-CAPACITY.false;
    }

pub fill_behind-requires : goal.fill_behind-requires
fill_behind-requires g t c κs within =
    let s = c.args.nodes.now in
    let i = turn c.args.edge in
    let kid = node_child s c.args.number i in
    let inner = edge_inside s 0 c.args.number c.args.edge c.requires.edge in
    let many : MIN_LEN < child_size s c.args.number i =
    omega (
      arith,
      c.if-many-le-MIN_LEN.false,
      c.item_count-many.ensures,
      ap (λ k. length (node_items s k)) (leaf_is s kid (inside c.args.edge) inner),
    ) in
    let behind = rw c.first_turn-index.ensures at c.child_at-behind.ensures in
    let room = kid_room (i + 1) c.requires.shaped (omega (arith, c.requires.earlier)) behind
    c.item_count.ensures c.if-item_count-eq-CAPACITY.false in
    let rotates = rw c.first_turn-index.ensures at c.rotate_right.ensures in
    let refills = behind_refills c.requires.shaped c.requires.owned c.args.edge c.requires.edge rotates
    c.requires.earlier many room in
    let moved = behind_edge c.requires.shaped c.requires.owned c.args.edge c.requires.edge rotates
    c.requires.earlier many room (omega (arith, many, c.requires.stays)) in
    let edge = moved.0 in
    let shaped = refills.rewritten.shape 1 (omega arith) c.requires.shaped in
    let owned = refills_owned refills c.requires.owned in
    grind arith

pub returns-clause-refills : goal.returns-clause-refills
returns-clause-refills g t c =
    let s = c.args.nodes.now in
    let i = turn c.args.edge in
    let kid = node_child s c.args.number i in
    let inner = edge_inside s 0 c.args.number c.args.edge c.requires.edge in
    let many : MIN_LEN < child_size s c.args.number i =
    omega (
      arith,
      c.if-many-le-MIN_LEN.false,
      c.item_count-many.ensures,
      ap (λ k. length (node_items s k)) (leaf_is s kid (inside c.args.edge) inner),
    ) in
    let behind = rw c.first_turn-index.ensures at c.child_at-behind.ensures in
    let room = kid_room (i + 1) c.requires.shaped (omega (arith, c.requires.earlier)) behind
    c.item_count.ensures c.if-item_count-eq-CAPACITY.false in
    let rotates = rw c.first_turn-index.ensures at c.rotate_right.ensures in
    refills_then (behind_refills c.requires.shaped c.requires.owned c.args.edge c.requires.edge rotates
    c.requires.earlier many room) c.fill_behind.ensures.refills

pub returns-clause-offset : goal.returns-clause-offset
returns-clause-offset g t c =
    let s = c.args.nodes.now in
    let i = turn c.args.edge in
    let kid = node_child s c.args.number i in
    let inner = edge_inside s 0 c.args.number c.args.edge c.requires.edge in
    let many : MIN_LEN < child_size s c.args.number i =
    omega (
      arith,
      c.if-many-le-MIN_LEN.false,
      c.item_count-many.ensures,
      ap (λ k. length (node_items s k)) (leaf_is s kid (inside c.args.edge) inner),
    ) in
    let behind = rw c.first_turn-index.ensures at c.child_at-behind.ensures in
    let room = kid_room (i + 1) c.requires.shaped (omega (arith, c.requires.earlier)) behind
    c.item_count.ensures c.if-item_count-eq-CAPACITY.false in
    let rotates = rw c.first_turn-index.ensures at c.rotate_right.ensures in
    let moved = behind_edge c.requires.shaped c.requires.owned c.args.edge c.requires.edge rotates
    c.requires.earlier many room (omega (arith, many, c.requires.stays)) in
    c.fill_behind.ensures.offset ∙ moved.1
