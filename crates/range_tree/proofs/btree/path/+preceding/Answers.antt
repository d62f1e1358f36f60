use Rattle.std.proofs.Common.{◌≡◌, ◌+◌, ◌-◌, ◌<◌, length, arith}
use Rattle.range_nodes.specs.Heap.{node_items}
use Rattle.range_tree.specs.Edges.{turn}
use Rattle.range_tree.proofs.Edges.{leaf_edge, leaf_place, leaf_index, path_small}
use Rattle.range_tree.proofs.Paths.{level_of_children, child_within, below_kid, below_turn, below_inside, below_edge, below_place, below_here, before_next}
use Rattle.range_tree.proofs.btree.path.+preceding.Goals as goal

pub child_at-child-requires-clause-within : goal.child_at-child-requires-clause-within
child_at-child-requires-clause-within g t c =
    grind (arith, below_turn, child_within)

pub preceding-requires : goal.preceding-requires
preceding-requires g t c κs within =
    let low = below_turn c.if-below-eq0.false c.requires.shaped c.args.edge c.requires.edge in
    let kid = below_kid c.if-below-eq0.false c.requires.shaped (turn c.args.edge) low in
    grind (arith, below_inside)

pub seen_above-requires : goal.seen_above-requires
seen_above-requires g t c =
    grind (arith, below_turn, path_small)

pub returns-in-Some : goal.returns-in-Some
returns-in-Some g t c =
    grind (arith, below_turn, below_place, below_edge, below_here)

pub returns-then-edge-eq0 : goal.returns-then-edge-eq0
returns-then-edge-eq0 g t c =
    grind (arith, leaf_place)

pub returns-then-below-eq0 : goal.returns-then-below-eq0
returns-then-below-eq0 g t c =
    grind (arith, leaf_edge, leaf_index, leaf_place)

pub returns-then-index-eq0 : goal.returns-then-index-eq0
returns-then-index-eq0 g t c =
    grind (arith, below_here)

pub child_at-last-requires-clause-within : goal.child_at-last-requires-clause-within
child_at-last-requires-clause-within g t c =
    grind (arith, below_turn, child_within)

pub end_edge-requires-clause-shaped : goal.end_edge-requires-clause-shaped
end_edge-requires-clause-shaped g t c =
    let low = below_turn c.if-below-eq0.false c.requires.shaped c.args.edge c.requires.edge in
    rw c.child_at-last.ensures (below_kid c.if-below-eq0.false c.requires.shaped
    (c.first_turn-index.result - 1) (omega (arith, c.first_turn-index.ensures, low)))

pub seen_above-requires-2 : goal.seen_above-requires-2
seen_above-requires-2 g t c =
    grind (arith, below_turn, path_small)

pub returns : goal.returns
returns g t c =
    let i = c.first_turn-index.result - 1 in
    let most = below_turn c.if-below-eq0.false c.requires.shaped c.args.edge c.requires.edge in
    let low : i < length (node_items c.args.nodes.now c.args.number) =
    omega (arith, c.first_turn-index.ensures, most, c.if-index-eq0.false) in
    let next : i + 1 ≡ turn c.args.edge =
    omega (arith, c.first_turn-index.ensures, c.if-index-eq0.false) in
    grind (arith, level_of_children, below_place, before_next, below_edge, below_here)
