-- A tree has a node for each MIN_LEN of its items at most, so capacity that is counted in items
-- serves its nodes.
use Rattle.std.proofs.Common.{◌≡◌, ℕ, zero, suc, ◌+◌, ◌*◌, ◌<◌, ◌≤◌, List, [], ◌∷◌, ◌++◌, length, get_or, take, drop, map, ap, ◌∙◌, arith}
use Rattle.std.specs.List.{All, flat_map, sum_by}
use Rattle.std.proofs.lemmas.List.{length-append, length-map, map-append}
use Rattle.std.proofs.lemmas.List.Concat.{flat_map-append}
use Rattle.std.proofs.lemmas.List.Sums.{sum_by-cons, sum_by-append}
use Rattle.std.proofs.lemmas.List.Elements.{All-head, All-tail, All-take, All-drop}
use Rattle.range_nodes.specs.Heap.{Heap, node_count, node_items, node_children, node_child}
use Rattle.range_nodes.specs.declared.nodes.TheConstants.{MIN_LEN}
use Rattle.range_tree.specs.Nodes.{items_below, used, Shaped, ShapedBut, HasTreeRoom}
use Rattle.range_tree.proofs.Below.{weave_items_below, children_length, used_is, Shaped-but}
use Rattle.range_tree.specs.Weave.{length-weave, list_splits_at}

-- how many items stand below these nodes
abbrev pub sizes : {T : Type 0} → Heap T → ℕ → List ℕ → ℕ
sizes s d ns = sum_by length (map (items_below s d) ns)

pub sizes-append : {T : Type 0} (s : Heap T) (d : ℕ) (us vs : List ℕ)
    → sizes s d (us ++ vs) ≡ sizes s d us + sizes s d vs
sizes-append s d us vs = grind (arith, map-append, sum_by-append)

pub items_below_size : {T : Type 0} {least most : ℕ} {s : Heap T} {d n : ℕ}
    → ShapedBut least most s d n → length (items_below s (suc d) n) ≡ length
    (node_items s n) + sizes s d (node_children s n)
items_below_size shaped = grind (arith, weave_items_below, length-weave, length-map)

children_le_from : {T : Type 0} (s : Heap T) (d : ℕ)
    → ((n : ℕ) → Shaped s d n → MIN_LEN * length (used s d n) ≤ length (items_below s d n))
    → (ns : List ℕ) → All (Shaped s d) ns → MIN_LEN * length (flat_map (used s d) ns) ≤ sizes s d ns
children_le_from s d below [] shaped = omega arith
children_le_from {T} s d below (n ∷ ns) shaped =
    omega (
      arith,
      below n (All-head (Shaped s d) n ns shaped),
      children_le_from s d below ns (All-tail (Shaped s d) n ns shaped),
      length-append (used s d n) (flat_map (used s d) ns),
      sum_by-cons (length {A = T}) (items_below s d n) (map (items_below s d) ns),
    )

pub used_le : {T : Type 0} (s : Heap T) (d n : ℕ) → Shaped s d n
    → MIN_LEN * length (used s d n) ≤ length (items_below s d n)
unfolding used items_below
used_le s zero n shaped = omega arith
used_le s (suc d) n shaped =
    let but = Shaped-but s d n shaped in
    grind (arith, items_below_size but, children_le_from, used_le s d)

pub children_le : {T : Type 0} (s : Heap T) (d : ℕ) (ns : List ℕ) → All (Shaped s d) ns
    → MIN_LEN * length (flat_map (used s d) ns) ≤ sizes s d ns
children_le s d ns shaped = children_le_from s d (used_le s d) ns shaped

-- capacity below a node is capacity below each of its children
pub HasTreeRoom-child : {T : Type 0} {most : ℕ} {s : Heap T} {d n : ℕ} (i : ℕ) {more : ℕ} → 0 < d
    → i ≤ length (node_items s n) → ShapedBut 1 most s d n → HasTreeRoom s (suc d) n more
    → HasTreeRoom s d (node_child s n i) more
HasTreeRoom-child {T} {most} {s} {d} {n} i {more} inner within shaped room =
    let ks = node_children s n in
    let kid = get_or ks i 0 in
    let many : length ks ≡ length (node_items s n) + 1 = children_length inner shaped in
    let three : ks ≡ take i ks ++ (kid ∷ drop (i + 1) ks) =
    list_splits_at ks i 0 (omega arith) in
    let sizes_all : sizes s d ks
    ≡ sizes s d (take i ks) + (length (items_below s d kid) + sizes s d (drop (i + 1) ks)) =
    ap (sizes s d) three ∙ sizes-append s d (take i ks) (kid ∷ drop (i + 1) ks)
    ∙ ap (λ m. sizes s d (take i ks) + m)
    (simp sum_by-cons) in
    let used_all : length (flat_map (used s d) ks)
    ≡ length (flat_map (used s d) (take i ks)) +
    (length (used s d kid) + length (flat_map (used s d) (drop (i + 1) ks))) =
    grind (arith, flat_map-append, length-append) in
    let lefts = children_le s d (take i ks) (All-take (Shaped s d) i ks shaped.children) in
    let rights =
    children_le s d (drop (i + 1) ks) (All-drop (Shaped s d) (i + 1) ks shaped.children) in
    let kept : MIN_LEN * node_count s + (length (items_below s d kid) + more) + 1
    ≤ MIN_LEN * s.capacity + MIN_LEN * length (used s d kid) + MIN_LEN =
    omega (arith, ap length (used_is s d n), items_below_size) in
    record {
      filled = kept;
      few = few_from d kid kept (shaped.children i 0 (omega arith)) inner;
    }
  where
    few_from : (b m : ℕ)
        → MIN_LEN * node_count s + (length (items_below s b m) + more) + 1
        ≤ MIN_LEN * s.capacity + MIN_LEN * length (used s b m) + MIN_LEN → Shaped s b m → 0 < b
        → MIN_LEN * node_count s + (length (items_below s b m) + more) + 1
        ≤ MIN_LEN * s.capacity + MIN_LEN * length (used s b m) + length (node_items s m)
    few_from zero m kept known some = absurd (omega arith)
    few_from (suc b) m kept known some = omega (arith, (Shaped-but s b m known).node.enough)
