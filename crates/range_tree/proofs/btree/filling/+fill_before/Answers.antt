use Rattle.std.proofs.Common.{◌≡◌, ◌+◌, ◌-◌, ◌<◌, ◌≤◌, length, refl, ap, ◌∙◌, arith}
use Rattle.range_nodes.specs.Heap.{node_items}
use Rattle.range_nodes.specs.declared.nodes.TheConstants.{CAPACITY, MIN_LEN}
use Rattle.range_tree.specs.Edges.{turn}
use Rattle.range_tree.specs.Nodes.{child_size}
use Rattle.range_tree.proofs.Edges.{turn_within}
use Rattle.range_tree.proofs.Filling.{before_edge, before_refills, kid_room, kids_levelled, refills_owned, refills_then}
use Rattle.range_tree.proofs.Rank.{kid_shaped}
use Rattle.range_tree.proofs.Rotating.{has_pair}
use Rattle.range_tree.proofs.btree.filling.+fill_before.Goals as goal

pub child_at-before-requires-clause-within : goal.child_at-before-requires-clause-within
child_at-before-requires-clause-within g t c =
    omega (
      arith,
      turn_within c.args.nodes.now 0 c.args.number c.args.edge c.requires.edge,
      c.first_turn-index.ensures,
      c.requires.later,
    )

pub item_count-requires : goal.item_count-requires
item_count-requires g t c =
    let low : c.first_turn-index.result - 1 ≤ length (node_items c.args.nodes.now c.args.number) =
    omega (
      arith,
      turn_within c.args.nodes.now 0 c.args.number c.args.edge c.requires.edge,
      c.first_turn-index.ensures,
      c.requires.shaped.node.branches,
    ) in
    rw c.child_at-before.ensures
    (kid_shaped 0 (c.first_turn-index.result - 1) c.requires.shaped low).node.present

pub rotate_left-requires : goal.rotate_left-requires
rotate_left-requires g t c =
    let j = c.first_turn-index.result - 1 in
    let low : j < length (node_items c.args.nodes.now c.args.number) =
    omega (
      arith,
      turn_within c.args.nodes.now 0 c.args.number c.args.edge c.requires.edge,
      c.first_turn-index.ensures,
      c.requires.later,
      c.requires.shaped.node.branches,
    ) in
    let right = kid_shaped 0 (j + 1) c.requires.shaped (omega (arith, low)) in
    record {
      pair = has_pair (kids_levelled 0 j c.requires.shaped c.requires.owned low);
      some = omega (arith, right.node.enough);
      room = kid_room j c.requires.shaped (omega (arith, low)) c.child_at-before.ensures
          c.item_count.ensures c.if-item_count-eq-CAPACITY.false;
    }

pub fill_before-requires : goal.fill_before-requires
fill_before-requires g t c κs within =
    let j = c.first_turn-index.result - 1 in
    let next : j + 1 ≡ turn c.args.edge =
    omega (arith, c.first_turn-index.ensures, c.requires.later) in
    let many : MIN_LEN < c.args.edge.index = omega (arith, c.if-edge-le-MIN_LEN.false) in
    let low : j ≤ length (node_items c.args.nodes.now c.args.number) =
    omega (
      arith,
      turn_within c.args.nodes.now 0 c.args.number c.args.edge c.requires.edge,
      c.requires.shaped.node.branches,
      next,
    ) in
    let room = kid_room j c.requires.shaped low c.child_at-before.ensures c.item_count.ensures
    c.if-item_count-eq-CAPACITY.false in
    let refills = before_refills c.requires.shaped c.requires.owned c.args.edge c.requires.edge j next
    c.rotate_left.ensures many room in
    let moved = before_edge c.requires.shaped c.requires.owned c.args.edge c.requires.edge j next
    c.rotate_left.ensures many room
    (record { path = c.args.edge.path; leaf = c.args.edge.leaf; index = c.args.edge.index - 1 })
    refl refl (omega (arith, many)) in
    let edge = moved.0 in
    let shaped = refills.rewritten.shape 1 (omega arith) c.requires.shaped in
    let owned = refills_owned refills c.requires.owned in
    grind arith

pub returns-clause-refills : goal.returns-clause-refills
returns-clause-refills g t c =
    let j = c.first_turn-index.result - 1 in
    let next : j + 1 ≡ turn c.args.edge =
    omega (arith, c.first_turn-index.ensures, c.requires.later) in
    let low : j ≤ length (node_items c.args.nodes.now c.args.number) =
    omega (
      arith,
      turn_within c.args.nodes.now 0 c.args.number c.args.edge c.requires.edge,
      c.requires.shaped.node.branches,
      next,
    ) in
    let room = kid_room j c.requires.shaped low c.child_at-before.ensures c.item_count.ensures
    c.if-item_count-eq-CAPACITY.false in
    refills_then (before_refills c.requires.shaped c.requires.owned c.args.edge c.requires.edge j next
    c.rotate_left.ensures (omega (arith, c.if-edge-le-MIN_LEN.false)) room)
    c.fill_before.ensures.refills

pub returns-clause-offset : goal.returns-clause-offset
returns-clause-offset g t c =
    let j = c.first_turn-index.result - 1 in
    let next : j + 1 ≡ turn c.args.edge =
    omega (arith, c.first_turn-index.ensures, c.requires.later) in
    let many : MIN_LEN < c.args.edge.index = omega (arith, c.if-edge-le-MIN_LEN.false) in
    let low : j ≤ length (node_items c.args.nodes.now c.args.number) =
    omega (
      arith,
      turn_within c.args.nodes.now 0 c.args.number c.args.edge c.requires.edge,
      c.requires.shaped.node.branches,
      next,
    ) in
    let room = kid_room j c.requires.shaped low c.child_at-before.ensures c.item_count.ensures
    c.if-item_count-eq-CAPACITY.false in
    let moved = before_edge c.requires.shaped c.requires.owned c.args.edge c.requires.edge j next
    c.rotate_left.ensures many room
    (record { path = c.args.edge.path; leaf = c.args.edge.leaf; index = c.args.edge.index - 1 })
    refl refl (omega (arith, many)) in
    c.fill_before.ensures.offset ∙ moved.1
