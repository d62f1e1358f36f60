use Rattle.std.proofs.Common.{◌≡◌, ◌+◌, ◌-◌, ◌<◌, ◌^◌, ◌≤◌, length, take, drop, refl, ◌∙◌, arith, Option, Some, None}
use Rattle.std.specs.List.{insert}
use Rattle.std.proofs.lemmas.List.Edits.{length-insert}
use Rattle.range_nodes.specs.Heap.{with_child, node_items, node_children}
use Rattle.range_nodes.specs.declared.nodes.TheConstants.{CAPACITY, HALF}
use Rattle.range_tree.specs.Contents.{Settles}
use Rattle.range_nodes.specs.declared.nodes.Split.{Split}
use Rattle.range_tree.proofs.Contents.{left_items_below, written_settles, written_holds, written_agree, cut_settles, left_holds, right_holds, cut_agree, part_agree}
use Rattle.range_tree.proofs.Seats.{seat_written, seat_left, seat_right, seat_small, seat_path, seat_alone, seat_beside}
use Rattle.range_tree.proofs.btree.insertion.put_or_cut.Goals as goal
use Rattle.range_tree.proofs.btree.insertion.put_or_cut.Given.{Over}
use Rattle.range_tree.proofs.btree.insertion.put_or_cut.Goals.{Start, After-split-split}

-- the node with the item
module _ (g : Over) (c : Start g) where
  long : length (insert (node_items c.args.nodes.now c.args.number) c.args.index c.args.item)
      ≡ length (node_items c.args.nodes.now c.args.number) + 1
  long = grind (arith, length-insert)

  small : c.args.seat ≤ length (node_items c.args.nodes.now c.args.number) + 1
  small = grind (arith, long, seat_small)

  path : 0 < c.args.below → c.args.inner.path < 2 ^ 60
  path some = grind (arith, seat_path)

pub edge_at-requires : goal.edge_at-requires
edge_at-requires g c =
    let a = (goal.at.edge_at-requires g c).Start in
    record {
      seat = omega (arith, small g a, c.item_count.ensures, c.if-item_count-lt-CAPACITY.true);
      path = path g a;
    }

pub returns-then-item_count-lt-CAPACITY : goal.returns-then-item_count-lt-CAPACITY
returns-then-item_count-lt-CAPACITY g c =
    let s = c.args.nodes.now in
    let xs = insert (node_items s c.args.number) c.args.index c.args.item in
    let ks = with_child (node_children s c.args.number) (c.args.index + 1) c.args.child in
    let t = c.put.new.self in
    let long = long g (goal.at.returns-then-item_count-lt-CAPACITY g c).Start in
    let holds = written_holds t c.requires.content c.put.ensures in
    let agree = written_agree t c.requires.content c.put.ensures in
    let edge =
    seat_written s t c.args.number xs ks c.args.seat c.args.inner c.edge_at.result c.args.below
    holds agree c.edge_at.ensures.leaf c.edge_at.ensures.turn c.edge_at.ensures.inside
    c.requires.seat in
    let alone = seat_alone t c.args.below c.args.number c.edge_at.result None edge.0 in
    record {
      settles = written_settles t c.requires.content c.put.ensures
          (omega (arith, long, c.item_count.ensures, c.if-item_count-lt-CAPACITY.true));
      left_whole = λ few. refl;
      edge = alone.0;
      offset = alone.1 ∙ edge.1;
    }

pub edge_at-requires-then-seat-le-HALF-clause-path :
    goal.edge_at-requires-then-seat-le-HALF-clause-path
edge_at-requires-then-seat-le-HALF-clause-path g c =
    path g (goal.at.edge_at-requires-then-seat-le-HALF-clause-path g c).Start

-- the node was full
module _ (g : Over) (c : After-split-split g) where
  low : HALF < length
      (insert (node_items c.args.nodes.now c.args.number) c.args.index c.args.item)
  low = omega (arith, length-insert)

  settles : Settles c.args.nodes.now c.split-split.new.self c.args.below c.args.number
      (insert (node_items c.args.nodes.now c.args.number) c.args.index c.args.item)
      (with_child (node_children c.args.nodes.now c.args.number) (c.args.index + 1) c.args.child)
      (Some c.split-split.result)
  settles = cut_settles c.split-split.result c.requires.content c.split-split.ensures
      low (omega arith) (omega arith) (omega (arith, length-insert)) (omega (arith, length-insert))

  left_whole : length (node_items c.args.nodes.now c.args.number) < CAPACITY
      → ◌≡◌ {A = Option (Split g.row.T.Denot)} (Some c.split-split.result) None
  left_whole few =
      absurd (omega (arith, few, c.item_count.ensures, c.if-item_count-lt-CAPACITY.false))

pub returns-then-seat-le-HALF : goal.returns-then-seat-le-HALF
returns-then-seat-le-HALF g c =
    let s = c.args.nodes.now in
    let xs = insert (node_items s c.args.number) c.args.index c.args.item in
    let ks = with_child (node_children s c.args.number) (c.args.index + 1) c.args.child in
    let t = c.split-split.new.self in
    let a = (goal.at.returns-then-seat-le-HALF g c).After-split-split in
    let low = low g a in
    let cut = c.split-split.ensures in
    let left =
    seat_left s HALF xs ks c.args.seat c.args.inner low c.args.below c.requires.content.branches
    c.if-seat-le-HALF.true c.requires.seat in
    let holds = left_holds c.split-split.result c.requires.content cut low in
    let agree = (part_agree s t c.args.below (HALF + 1) ks
    (cut_agree c.split-split.result c.requires.content cut low)).0 in
    let edge =
    seat_written s t c.args.number (take HALF xs) (take (HALF + 1) ks) c.args.seat c.args.inner
    c.edge_at-then-seat-le-HALF.result c.args.below holds agree
    c.edge_at-then-seat-le-HALF.ensures.leaf c.edge_at-then-seat-le-HALF.ensures.turn
    c.edge_at-then-seat-le-HALF.ensures.inside left.0 in
    let alone =
    seat_alone t c.args.below c.args.number c.edge_at-then-seat-le-HALF.result
    (Some c.split-split.result) edge.0 in
    grind (arith, settles g a)

pub edge_at-edge-requires : goal.edge_at-edge-requires
edge_at-edge-requires g c =
    let a = (goal.at.edge_at-edge-requires g c).Start in
    record { seat = omega (arith, small g a, c.requires.fits); path = path g a }

pub returns : goal.returns
returns g c =
    let s = c.args.nodes.now in
    let xs = insert (node_items s c.args.number) c.args.index c.args.item in
    let ks = with_child (node_children s c.args.number) (c.args.index + 1) c.args.child in
    let t = c.split-split.new.self in
    let a = (goal.at.returns g c).After-split-split in
    let low = low g a in
    let cut = c.split-split.ensures in
    let right =
    seat_right s HALF xs ks c.args.seat c.args.inner low c.args.below c.requires.content.branches
    (omega (arith, c.if-seat-le-HALF.false)) c.requires.seat in
    let holds = right_holds c.split-split.result c.requires.content cut low in
    let agree = (part_agree s t c.args.below (HALF + 1) ks
    (cut_agree c.split-split.result c.requires.content cut low)).1 in
    let edge =
    seat_written s t c.split-split.result.right (drop (HALF + 1) xs) (drop (HALF + 1) ks)
    (c.args.seat - HALF - 1) c.args.inner c.edge_at-edge.result c.args.below holds agree
    c.edge_at-edge.ensures.leaf c.edge_at-edge.ensures.turn c.edge_at-edge.ensures.inside
    right.0 in
    let beside =
    seat_beside t c.args.below c.args.number c.edge_at-edge.result c.split-split.result
    edge.0 in
    let fore = left_items_below HALF c.requires.content low
    (left_holds c.split-split.result c.requires.content cut low) holds in
    grind (arith, settles g a)
