use Rattle.std.proofs.Common.{◌≡◌, suc, ◌+◌, ◌-◌, length, refl, ◌∙◌, arith}
use Rattle.std.specs.List.{insert}
use Rattle.std.proofs.lemmas.List.Edits.{length-insert}
use Rattle.range_tree.specs.Depth.{HasLevels}
use Rattle.range_tree.specs.Holding.{box_items, box_offset}
use Rattle.range_tree.specs.Nodes.{items_below, IsRoomy}
use Rattle.range_tree.specs.Written.{root_shaped}
use Rattle.range_tree.proofs.Edges.{path_small}
use Rattle.range_tree.proofs.EndLeaves.{leaf_keeps_ends}
use Rattle.range_tree.proofs.InPlace.{IsLeafChange, put_in_leaf}
use Rattle.range_tree.proofs.Levels.{levels_le}
use Rattle.range_tree.proofs.RootGrowth.{IsGrown, kept_edge, kept_root, grown_whole, taller_edge, taller_room, taller_root}
use Rattle.range_tree.proofs.Seats.{seat_inside, seat_side}
use Rattle.range_tree.proofs.Whole.{edge_within, tree_is_not_too_deep, tree_leaf}
use Rattle.range_tree.proofs.btree.BoxStorage.insert_between.Goals as goal
use Rattle.range_tree.proofs.btree.BoxStorage.insert_between.Given.{Over}
use Rattle.range_tree.proofs.btree.BoxStorage.insert_between.Goals.{Start, After-put, After-store_branch-self, After-seen_above, In-None}

longer : (g : Over) (c : Start g)
    → length (insert (box_items c.args.self.now) (box_offset c.args.self.now c.args.edge)
    c.args.item) ≡ length (box_items c.args.self.now) + 1
longer g c = grind (arith, length-insert, edge_within)

-- of a leaf with capacity to spare
pub item_count-requires : goal.item_count-requires
item_count-requires g c = (tree_leaf c.requires.edge).present

pub put-requires : goal.put-requires
put-requires g c =
    grind (arith, tree_leaf)

put_here : (g : Over) (c : After-put g)
    → IsLeafChange c.put.new.self c.requires.edge
    (insert (box_items c.args.self.now) (box_offset c.args.self.now c.args.edge) c.args.item)
    (record { leaf = c.args.edge.leaf; path = c.args.edge.path; index = c.args.edge.index + 1 })
    (c.args.edge.index + 1)
put_here g c = put_in_leaf c.put.new.self c.requires.edge c.args.item _ (omega arith) c.put.ensures
    refl refl refl

pub overflow_add-result : goal.overflow_add-result
overflow_add-result g c = omega (arith, (tree_leaf c.requires.edge).within)

pub invariant_of-self : goal.invariant_of-self
invariant_of-self g c =
    let s = c.args.self.now in
    let at = goal.at.invariant_of-self g c in
    let put = put_here g at.After-put in
    let more = longer g at.Start in
    let whole = grown_whole (s.len + 1) (record { tree = put.tree; items_are = put.items_are })
    (omega (arith, more, s.counted)) (omega (arith, more, c.requires.room, put.capacity))
    (omega (arith, more, c.requires.room)) in
    record {
      whole = whole.0;
      counted = whole.1;
      levelled = whole.2;
      ended = leaf_keeps_ends c.put.ensures s.ended;
    }

pub returns-then-item_count-lt-CAPACITY : goal.returns-then-item_count-lt-CAPACITY
returns-then-item_count-lt-CAPACITY g c =
    grind (arith, put_here)

-- below the root
pub insert_below-inserted-requires-clause-deep : goal.insert_below-inserted-requires-clause-deep
insert_below-inserted-requires-clause-deep g c =
    grind (arith, tree_is_not_too_deep)

-- with no cut of the root
kept : (g : Over) (c : In-None g)
    → IsGrown c.insert_below-inserted.new.nodes c.args.self.now.levels c.args.self.now.root
    (insert (box_items c.args.self.now) (box_offset c.args.self.now c.args.edge) c.args.item)
kept g c =
    let level : suc (c.args.self.now.levels - 1) ≡ c.args.self.now.levels =
    omega (arith, c.requires.edge.some) in
    rw level at (kept_root c.args.self.now.levels c.requires.edge.some
    c.args.self.now.whole.tree (rw c.in-None.is at c.insert_below-inserted.ensures.replaces))

pub end_leaves-self-requires-clause-deep : goal.end_leaves-self-requires-clause-deep
end_leaves-self-requires-clause-deep g c =
    tree_is_not_too_deep c.args.self.now.levels c.args.self.now.whole

pub invariant_of-self-in-None : goal.invariant_of-self-in-None
invariant_of-self-in-None g c =
    let s = c.args.self.now in
    let at = goal.at.invariant_of-self-in-None g c in
    let more = longer g at.Start in
    let capacity = c.insert_below-inserted.ensures.replaces.moved.capacity in
    let whole = grown_whole (s.len + 1) (kept g at.In-None) (omega (arith, more, s.counted))
    (omega (arith, more, c.requires.room, capacity)) (omega (arith, more, c.requires.room)) in
    record {
      whole = whole.0;
      counted = whole.1;
      levelled = whole.2;
      ended = λ some. c.end_leaves-self.ensures;
    }

pub returns-in-None : goal.returns-in-None
returns-in-None g c =
    grind (arith, kept, kept_edge)

-- with a cut of the root
pub store_branch-self-requires : goal.store_branch-self-requires
store_branch-self-requires g c =
    let a = goal.at.store_branch-self-requires g c in
    let level : suc (c.args.self.now.levels - 1) ≡ c.args.self.now.levels =
    omega (arith, c.requires.edge.some) in
    taller_room c.args.self.now.levels c.in-Some.split c.requires.edge.some
    (omega (arith, longer g a.Start, c.requires.room)) c.args.self.now.whole.tree
    (rw level at (rw c.in-Some.is at c.insert_below-inserted.ensures.replaces))

pub overflow_add-self-in-Some : goal.overflow_add-self-in-Some
overflow_add-self-in-Some g c = omega (arith, levels_le)

taller : (g : Over) (c : After-store_branch-self g)
    → IsGrown c.store_branch-self.new.self (c.args.self.now.levels + 1) c.store_branch-self.result
    (insert (box_items c.args.self.now) (box_offset c.args.self.now c.args.edge) c.args.item)
taller g c =
    let level : suc (c.args.self.now.levels - 1) ≡ c.args.self.now.levels =
    omega (arith, c.requires.edge.some) in
    rw level at (taller_root c.args.self.now.levels c.in-Some.split c.requires.edge.some
    c.args.self.now.whole.tree (rw c.in-Some.is at c.insert_below-inserted.ensures.replaces)
    c.store_branch-self.ensures)

grown : (g : Over) (c : After-store_branch-self g)
    → length (insert (box_items c.args.self.now) (box_offset c.args.self.now c.args.edge)
    c.args.item) ≡ length (box_items c.args.self.now) + 1
    → IsRoomy c.store_branch-self.new.self (c.args.self.now.levels + 1) c.store_branch-self.result
    × (c.args.self.now.len + 1
    ≡ length (items_below c.store_branch-self.new.self (c.args.self.now.levels + 1)
    c.store_branch-self.result))
    × HasLevels (c.args.self.now.len + 1) (c.args.self.now.levels + 1)
grown g c more =
    let s = c.args.self.now in
    let capacity =
    c.store_branch-self.ensures.capacity
    ∙ c.insert_below-inserted.ensures.replaces.moved.capacity in
    grown_whole (s.len + 1) (taller g c) (omega (arith, more, s.counted))
    (omega (arith, more, c.requires.room, capacity)) (omega (arith, more, c.requires.room))

pub end_leaves-self-requires-in-Some : goal.end_leaves-self-requires-in-Some
end_leaves-self-requires-in-Some g c =
    let at = goal.at.end_leaves-self-requires-in-Some g c in
    let whole = (grown g at.After-store_branch-self (longer g at.Start)).0 in
    record {
      shaped = root_shaped (c.args.self.now.levels + 1) (omega arith) whole.tree;
      deep = tree_is_not_too_deep (c.args.self.now.levels + 1) whole;
    }

pub invariant_of-self-in-Some : goal.invariant_of-self-in-Some
invariant_of-self-in-Some g c =
    let at = goal.at.invariant_of-self-in-Some g c in
    let whole = grown g at.After-store_branch-self (longer g at.Start) in
    record {
      whole = whole.0;
      counted = whole.1;
      levelled = whole.2;
      ended = λ some. c.end_leaves-self-in-Some.ensures;
    }

pub seen_above-requires : goal.seen_above-requires
seen_above-requires g c =
    grind (arith, seat_side, path_small, tree_is_not_too_deep, seat_inside)

pub returns-in-Some : goal.returns-in-Some
returns-in-Some g c =
    grind (
      arith,
      taller_edge c.args.self.now.levels c.insert_below-inserted.result.side c.in-Some.split
          c.insert_below-inserted.result.edge c.seen_above.result c.requires.edge.some
          c.args.self.now.whole.tree
          (rw c.in-Some.is at c.insert_below-inserted.ensures.replaces)
          c.store_branch-self.ensures c.seen_above.ensures.turn
          c.seen_above.ensures.inside
          (rw c.in-Some.is at c.insert_below-inserted.ensures.edge),
      taller,
    )
