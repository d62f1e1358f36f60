use Rattle.std.proofs.Common.{◌≡◌, ◌+◌, ◌-◌, ◌<◌, ◌≤◌, length, refl, sym, ap, ◌∙◌, inl, inr, arith}
use Rattle.std.proofs.lemmas.Bool.{cases_lt}
use Rattle.range_tree.specs.Nodes.{child_size}
use Rattle.range_nodes.specs.Heap.{node_items}
use Rattle.range_nodes.specs.declared.nodes.TheConstants.{MIN_LEN}
use Rattle.range_tree.proofs.Edges.{path_small, edge_above, place_above}
use Rattle.range_tree.proofs.Seats.{seat_place_inner}
use Rattle.range_tree.proofs.ShortNodes.{all_present, pair_levelled, stays_balanced}
use Rattle.range_tree.proofs.btree.removal.rebalance.Given.{Over}
use Rattle.range_tree.proofs.btree.removal.rebalance.Goals as goal
use Rattle.range_tree.proofs.btree.removal.rebalance.Goals.{After-saturating_sub, Else-item_count-ge-MIN_LEN, then-index-gt0+else-item_count-gt-MIN_LEN, else-index-gt0, then-index-item_count+else-item_count-gt-MIN_LEN-2, else-index-item_count}

pub seen_above-requires-clause-path : goal.seen_above-requires-clause-path
seen_above-requires-clause-path g c =
    path_small c.args.nodes.now c.args.low _ c.args.edge
    (omega (arith, c.requires.deep)) c.requires.edge

pub returns-then-item_count-ge-MIN_LEN-clause-shrinks :
    goal.returns-then-item_count-ge-MIN_LEN-clause-shrinks
returns-then-item_count-ge-MIN_LEN-clause-shrinks g c =
    let enough : MIN_LEN ≤ length (node_items c.args.nodes.now c.child_at-child.result) =
    omega (arith, c.item_count.ensures) in
    stays_balanced c.args.nodes.now c.args.low c.args.number c.args.index c.requires.short
    (rw c.child_at-child.ensures at enough)

pub returns-then-item_count-ge-MIN_LEN-clause-edge :
    goal.returns-then-item_count-ge-MIN_LEN-clause-edge
returns-then-item_count-ge-MIN_LEN-clause-edge g c =
    edge_above c.args.nodes.now c.args.low c.args.number c.args.index c.args.edge
    c.seen_above.result c.seen_above.ensures.turn c.seen_above.ensures.inside
    (omega (arith, c.requires.short.within, c.requires.short.node.branches))
    c.requires.edge

pub returns-then-item_count-ge-MIN_LEN-clause-offset :
    goal.returns-then-item_count-ge-MIN_LEN-clause-offset
returns-then-item_count-ge-MIN_LEN-clause-offset g c =
    place_above c.args.nodes.now c.args.low c.args.number c.args.index c.args.edge
    c.seen_above.result c.seen_above.ensures.turn c.seen_above.ensures.inside
    ∙ sym (seat_place_inner c.args.nodes.now c.args.low _ _ c.args.index c.args.edge)

-- the child is short
short_child : (g : Over) (c : Else-item_count-ge-MIN_LEN g)
    → child_size c.args.nodes.now c.args.number c.args.index < MIN_LEN
short_child g c =
    omega (
      arith,
      c.if-item_count-ge-MIN_LEN.false,
      c.item_count.ensures,
      ap (λ k. length (node_items c.args.nodes.now k)) c.child_at-child.ensures,
    )

pub item_count-requires-then-index-gt0 : goal.item_count-requires-then-index-gt0
item_count-requires-then-index-gt0 g c = rw c.child_at-before.ensures
    (all_present c.args.nodes.now c.args.low c.args.number c.args.index c.requires.short
    (c.args.index - 1) 0 (omega
    (arith, c.requires.short.within, c.requires.short.node.branches)))

pub item_count-requires-then-index-item_count : goal.item_count-requires-then-index-item_count
item_count-requires-then-index-item_count g c = rw c.child_at-behind.ensures
    (all_present c.args.nodes.now c.args.low c.args.number c.args.index c.requires.short
    (c.args.index + 1) 0 (omega (
      arith,
      c.requires.short.within,
      c.requires.short.node.branches,
      c.if-index-item_count.true,
    )))

pub borrow_from_left-requires : goal.borrow_from_left-requires
borrow_from_left-requires g c =
    let short = short_child g (goal.at.borrow_from_left-requires g c).Else-item_count-ge-MIN_LEN in
    let next : c.args.index - 1 + 1 ≡ c.args.index = omega (arith, c.if-index-gt0.true) in
    let levelled =
    pair_levelled c.args.nodes.now c.args.low c.args.number c.args.index c.requires.short
    (c.args.index - 1) (omega (arith, c.if-index-gt0.true, c.requires.short.within))
    (inr next) short in
    record {
      levelled = levelled;
      spare = omega (
        arith,
        c.if-item_count-gt-MIN_LEN.true,
        c.item_count-then-index-gt0.ensures,
        ap (λ k. length (node_items c.args.nodes.now k)) c.child_at-before.ensures,
      );
      room = rw next (omega (arith, short));
      deep = c.requires.deep;
      edge = rw next c.requires.edge;
    }

pub borrow_from_right-requires : goal.borrow_from_right-requires
borrow_from_right-requires g c =
    let short = short_child g (goal.at.borrow_from_right-requires g c).Else-item_count-ge-MIN_LEN in
    let levelled =
    pair_levelled c.args.nodes.now c.args.low c.args.number c.args.index c.requires.short
    c.args.index (omega (arith, c.if-index-item_count.true, c.item_count-2.ensures))
    (inl refl) short in
    record {
      levelled = levelled;
      spare = omega (
        arith,
        c.if-item_count-gt-MIN_LEN-2.true,
        c.item_count-then-index-item_count.ensures,
        ap (λ k. length (node_items c.args.nodes.now k)) c.child_at-behind.ensures,
      );
      room = omega (arith, short);
      deep = c.requires.deep;
      edge = c.requires.edge;
    }

-- no neighbour has an item to spare
none_before : (g : Over) (c : After-saturating_sub g) → 0 < c.args.index
    → child_size c.args.nodes.now c.args.number (c.args.index - 1) ≤ MIN_LEN
none_before g c some =
    elim c.if-index-gt0.branch [
      | then-index-gt0+else-item_count-gt-MIN_LEN w ↦
          omega (
            arith,
            w.if-item_count-gt-MIN_LEN.false,
            w.item_count-then-index-gt0.ensures,
            ap (λ k. length (node_items c.args.nodes.now k)) w.child_at-before.ensures,
          )
      | else-index-gt0 w ↦ omega (arith, w.if-index-gt0.false, some)
    ]

none_behind : (g : Over) (c : After-saturating_sub g)
    → c.args.index < length (node_items c.args.nodes.now c.args.number)
    → child_size c.args.nodes.now c.args.number (c.args.index + 1) ≤ MIN_LEN
none_behind g c low =
    elim c.if-index-item_count.branch [
      | then-index-item_count+else-item_count-gt-MIN_LEN-2 w ↦
          omega (
            arith,
            w.if-item_count-gt-MIN_LEN-2.false,
            w.item_count-then-index-item_count.ensures,
            ap (λ k. length (node_items c.args.nodes.now k)) w.child_at-behind.ensures,
          )
      | else-index-item_count w ↦
          omega (arith, w.if-index-item_count.false, c.item_count-2.ensures, low)
    ]

pub join-requires : goal.join-requires
join-requires g c =
    let a = (goal.at.join-requires g c).After-saturating_sub in
    let m = c.requires.short in
    let short = short_child g (goal.at.join-requires g c).Else-item_count-ge-MIN_LEN in
    let less : c.saturating_sub.result ≡ c.args.index - 1 =
    omega (arith, c.saturating_sub.ensures) in
    elim (cases_lt 0 c.args.index) [
      | inl some ↦
          let next : c.args.index - 1 + 1 ≡ c.args.index = omega (arith, some) in
          let levelled =
          pair_levelled c.args.nodes.now c.args.low c.args.number c.args.index m
          (c.args.index - 1) (omega (arith, some, m.within)) (inr next) short in
          record {
            levelled = rw less levelled;
            few = rw (less, next) (omega (arith, none_before g a some, short));
            deep = c.requires.deep;
            near = inr (omega (arith, less, some));
            edge = c.requires.edge;
          }
      | inr first ↦
          let start : c.args.index ≡ 0 = omega (arith, first) in
          let same : c.saturating_sub.result ≡ c.args.index = omega (arith, less, start) in
          let within : c.args.index < length (node_items c.args.nodes.now c.args.number) =
          omega (arith, start, m.node.enough) in
          let levelled =
          pair_levelled c.args.nodes.now c.args.low c.args.number c.args.index m
          c.args.index within (inl refl) short in
          record {
            levelled = rw same levelled;
            few = rw same (omega (arith, none_behind g a within, short));
            deep = c.requires.deep;
            near = inl (omega (arith, same));
            edge = c.requires.edge;
          }
    ]
