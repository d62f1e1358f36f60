use Rattle.std.proofs.Common.{◌≡◌, ℕ, ◌<◌, ◌≤◌, ◌+◌, length, ap, ◌∙◌, arith, None}
use Rattle.std.proofs.lemmas.List.Edits.{length-insert}
use Rattle.range_nodes.specs.Heap.{items_of, node_items}
use Rattle.range_nodes.specs.declared.nodes.TheConstants.{CAPACITY}
use Rattle.range_tree.specs.Edges.{turn, inside}
use Rattle.range_tree.proofs.Edges.{path_small, leaf_index, leaf_place}
use Rattle.range_tree.proofs.Below.{children_length}
use Rattle.range_tree.proofs.Room.{HasTreeRoom-child}
use Rattle.range_tree.proofs.Seats.{seat_alone, seat_inside, seat_side}
use Rattle.range_tree.proofs.Paths.{level_of_children, child_within, below_kid, below_turn, below_inside, below_here}
use Rattle.range_tree.proofs.Leaves.{leaf_content, leaf_moved, leaf_listed, leaf_longer, leaf_seat, leaf_seat_place}
use Rattle.range_tree.proofs.Growing.{kid_owned, grows_below, none_replaces, none_edge, some_items, some_children, grown_kept, grown_moved, grown_content, grown_listed, grown_longer, grown_seat, content_room, settled_replaces}
use Rattle.range_tree.proofs.btree.insertion.+insert_below.Goals as goal

pub overflow_add-at : goal.overflow_add-at
overflow_add-at g t c =
    grind (arith, leaf_index)

pub put_or_cut-requires : goal.put_or_cut-requires
put_or_cut-requires g t c =
    let s = c.args.nodes.now in
    let shaped = rw c.if-below-eq0.true at c.requires.shaped in
    let owned = rw c.if-below-eq0.true at c.requires.owned in
    let low = leaf_index s c.args.number c.args.edge (rw c.if-below-eq0.true at c.requires.edge) in
    let long = length-insert (node_items s c.args.number) c.args.edge.index c.args.item low in
    let content = leaf_content c.args.edge.index c.args.item shaped owned in
    let seat = leaf_seat s _ _ (c.args.edge.index + 1) c.args.edge (omega (arith, low, long)) in
    record {
      present = c.requires.shaped.node.present;
      within = low;
      fits = c.requires.shaped.node.fits;
      child = shaped.node.branches;
      content = rw c.if-below-eq0.true content;
      room = (λ full. content_room (leaf_moved c.args.edge.index c.args.item shaped) content
          (leaf_longer c.args.edge.index c.args.item shaped low)
          (rw c.if-below-eq0.true at c.requires.room) (omega (arith, long, full)));
      deep = c.requires.deep;
      seat = rw c.if-below-eq0.true seat;
    }

pub returns-then-below-eq0-clause-replaces : goal.returns-then-below-eq0-clause-replaces
returns-then-below-eq0-clause-replaces g t c =
    grind (arith, leaf_index, length-insert, leaf_place, settled_replaces, leaf_moved, leaf_listed)

pub returns-then-below-eq0-clause-offset : goal.returns-then-below-eq0-clause-offset
returns-then-below-eq0-clause-offset g t c =
    grind (arith, leaf_place, leaf_seat_place)

pub child_at-child-requires-clause-within : goal.child_at-child-requires-clause-within
child_at-child-requires-clause-within g t c =
    grind (arith, below_turn, child_within)

pub insert_below-inserted-requires : goal.insert_below-inserted-requires
insert_below-inserted-requires g t c κs inside =
    let low = below_turn c.if-below-eq0.false c.requires.shaped c.args.edge c.requires.edge in
    let kid = below_kid c.if-below-eq0.false c.requires.shaped (turn c.args.edge) low in
    let is = below_inside c.if-below-eq0.false c.requires.shaped c.args.edge c.requires.edge in
    let back = level_of_children c.if-below-eq0.false c.requires.shaped in
    let owned = kid_owned c.args.nodes.now c.args.below c.args.number (turn c.args.edge)
    c.requires.owned (child_within c.if-below-eq0.false c.requires.shaped _ low) in
    let room = HasTreeRoom-child (turn c.args.edge) (omega arith) low c.requires.shaped
    c.requires.room in grind arith

pub returns-in-None : goal.returns-in-None
returns-in-None g t c =
    let child = rw (c.child_at-child.ensures, c.first_turn-index.ensures, c.seen_inside.ensures) at
    (rw c.in-None.is at c.insert_below-inserted.ensures.replaces) in
    let grows = grows_below c.if-below-eq0.false c.requires.shaped c.requires.owned c.args.edge
    c.requires.edge child in
    let seat = rw (c.child_at-child.ensures, c.first_turn-index.ensures, c.in-None.is) at
    c.insert_below-inserted.ensures.edge in
    let at = rw (c.child_at-child.ensures, c.first_turn-index.ensures, c.seen_inside.ensures) at
    (rw c.in-None.is at c.insert_below-inserted.ensures.offset) in
    let here = below_here c.if-below-eq0.false c.requires.shaped c.args.edge in
    let edge = none_edge grows c.insert_below-inserted.result.side
    c.insert_below-inserted.result.edge c.seen_above.result
    (c.seen_above.ensures.turn ∙ c.first_turn-index.ensures) c.seen_above.ensures.inside seat in
    let alone = seat_alone c.insert_below-inserted.new.nodes c.args.below c.args.number
    c.seen_above.result None edge.0 in
    grind (arith, none_replaces grows)

pub seen_above-requires : goal.seen_above-requires
seen_above-requires g t c =
    grind (arith, below_turn, path_small, seat_inside)

pub overflow_add-seat : goal.overflow_add-seat
overflow_add-seat g t c =
    grind (arith, below_turn, seat_side)

-- a full node has more items than fit once it has another one
over : (now was more : ℕ) → CAPACITY ≤ now → more ≡ was + 1 → now ≡ was → CAPACITY < more
over now was more full longer same = omega arith

pub put_or_cut-requires-in-Some : goal.put_or_cut-requires-in-Some
put_or_cut-requires-in-Some g t c =
    let i = turn c.args.edge in
    let child = rw (c.child_at-child.ensures, c.first_turn-index.ensures, c.seen_inside.ensures) at
    (rw c.in-Some.is at c.insert_below-inserted.ensures.replaces) in
    let grows = grows_below c.if-below-eq0.false c.requires.shaped c.requires.owned c.args.edge
    c.requires.edge child in
    let seat = rw (c.child_at-child.ensures, c.first_turn-index.ensures, c.in-Some.is) at
    c.insert_below-inserted.ensures.edge in
    let kept = grown_kept grows in
    let long = length-insert (node_items c.args.nodes.now c.args.number) i c.in-Some.cut.middle
    grows.low in
    let up = grown_seat grows c.insert_below-inserted.result.side
    c.insert_below-inserted.result.edge seat in
    record {
      present = rw kept c.requires.shaped.node.present;
      within = rw kept (omega (arith, grows.low, c.first_turn-index.ensures));
      fits = rw kept c.requires.shaped.node.fits;
      child = rw kept (children_length (omega (arith, c.if-below-eq0.false)) c.requires.shaped);
      content = rw (c.first_turn-index.ensures, ← some_items grows, ← some_children grows)
          (grown_content grows);
      room = (λ full. content_room (grown_moved grows) (grown_content grows) (grown_longer grows)
          c.requires.room (over _ _ _ full long (ap (λ node. length (items_of node)) kept)));
      deep = c.requires.deep;
      seat = rw (c.first_turn-index.ensures, ← some_items grows, ← some_children grows) up.0;
    }

pub returns-in-Some : goal.returns-in-Some
returns-in-Some g t c =
    let i = turn c.args.edge in
    let child = rw (c.child_at-child.ensures, c.first_turn-index.ensures, c.seen_inside.ensures) at
    (rw c.in-Some.is at c.insert_below-inserted.ensures.replaces) in
    let grows = grows_below c.if-below-eq0.false c.requires.shaped c.requires.owned c.args.edge
    c.requires.edge child in
    let long = length-insert (node_items c.args.nodes.now c.args.number) i c.in-Some.cut.middle
    grows.low in
    let settles = rw (c.first_turn-index.ensures, ← some_items grows, ← some_children grows) at
    c.put_or_cut-in-Some.ensures.settles in
    let seat = rw (c.child_at-child.ensures, c.first_turn-index.ensures, c.in-Some.is) at
    c.insert_below-inserted.ensures.edge in
    let at = rw (c.child_at-child.ensures, c.first_turn-index.ensures, c.seen_inside.ensures) at
    (rw c.in-Some.is at c.insert_below-inserted.ensures.offset) in
    let up = grown_seat grows c.insert_below-inserted.result.side
    c.insert_below-inserted.result.edge seat in
    let here = rw (c.first_turn-index.ensures, ← some_items grows, ← some_children grows) at
    c.put_or_cut-in-Some.ensures.offset in
    let below = below_here c.if-below-eq0.false c.requires.shaped c.args.edge in
    record {
      replaces = rw below (settled_replaces _ (grown_moved grows) (grown_listed grows)
          (omega (arith, long)) settles);
      left_whole = λ few. c.put_or_cut-in-Some.ensures.left_whole (rw (grown_kept grows) few);
      edge = c.put_or_cut-in-Some.ensures.edge;
      offset = here ∙ omega (arith, up.1, at, below);
    }
