-- What is known of a node's children.
use Rattle.std.proofs.Common.{◌≡◌, ◌⊎◌, ℕ, zero, suc, ◌+◌, ◌<◌, ◌≤◌, [], ◌∷◌, ◌++◌, length, refl, ◌∙◌, arith}
use Rattle.std.proofs.lemmas.List.{length-map, get_or-map, drop_all, nil_from_length}
use Rattle.range_nodes.specs.Heap.{Heap, child_count, node_items, node_children, node_child}
use Rattle.range_nodes.specs.declared.nodes.TheConstants.{CAPACITY, MIN_LEN}
use Rattle.range_tree.specs.Nodes.{weave, items_below, used, Shaped, ShapedBut, child_lists, before_child, after_child}
use Rattle.std.specs.List.{flat_map}
use Rattle.range_tree.specs.Weave.{weave_at}
use Rattle.range_tree.proofs.Weaving.{length-before_next}

pub Shaped-from_but : {T : Type 0} (s : Heap T) (d n : ℕ) → ShapedBut MIN_LEN CAPACITY s d n
    → Shaped s (suc d) n
unfolding Shaped
Shaped-from_but s d n but = (but.node, but.children)

pub Shaped-but : {T : Type 0} (s : Heap T) (d n : ℕ) → Shaped s (suc d) n
    → ShapedBut MIN_LEN CAPACITY s d n
unfolding Shaped
Shaped-but s d n shaped = record { node = shaped.0; children = shaped.1 }

pub shaped_within_wider : {T : Type 0} (low : ℕ) {least most : ℕ} (top : ℕ) {s : Heap T} {d n : ℕ}
    → low ≤ least → most ≤ top → ShapedBut least most s d n → ShapedBut low top s d n
shaped_within_wider low top le le' shaped = grind arith

pub child_count_cases : (d k m : ℕ) → m ≡ child_count d k → (m ≡ 0) ⊎ (m ≡ k + 1)
child_count_cases d k m h = grind arith

pub used_is : {T : Type 0} (s : Heap T) (d n : ℕ)
    → used s (suc d) n ≡ n ∷ flat_map (used s d) (node_children s n)
unfolding used
used_is s d n = refl

pub items_below_leaf : {T : Type 0} (s : Heap T) (n : ℕ) → length (node_children s n) ≡ 0
    → items_below s (suc zero) n ≡ node_items s n
unfolding items_below
items_below_leaf s n none = rw (nil_from_length (node_children s n) none) refl

pub used_leaf : {T : Type 0} (s : Heap T) (n : ℕ) → length (node_children s n) ≡ 0
    → used s (suc zero) n ≡ n ∷ []
unfolding used
used_leaf s n none = rw (nil_from_length (node_children s n) none) refl

pub child_count_inner : (d k : ℕ) → 0 < d → child_count d k ≡ k + 1
child_count_inner d k inner = grind arith

pub weave_items_below : {T : Type 0} (s : Heap T) (d n : ℕ)
    → items_below s (suc d) n ≡ weave (node_items s n) (child_lists s d n)
unfolding items_below
weave_items_below s d n = refl

module _ {T : Type 0} {least most : ℕ} {s : Heap T} {d n : ℕ} (inner : 0 < d)
    (shaped : ShapedBut least most s d n) where
  pub children_length : length (node_children s n) ≡ length (node_items s n) + 1
  children_length = shaped.node.branches ∙ child_count_inner d _ inner

  -- the lists of the children, and how many items stand before the list at i
  pub lists_length : length (child_lists s d n) ≡ length (node_items s n) + 1
  lists_length = length-map (node_children s n) (items_below s d) ∙ children_length

  pub items_below_at : (i : ℕ) → i ≤ length (node_items s n) → items_below s (suc d) n
      ≡ before_child s d n i ++ (items_below s d (node_child s n i) ++ after_child s d n i)
  items_below_at i within =
      let kid =
      get_or-map (items_below s d) (node_children s n) i 0 [] (omega (arith, children_length)) in
      grind (arith, weave_items_below, weave_at, lists_length)

  pub length-before_more : (i : ℕ) → i < length (node_items s n)
      → length (before_child s d n (i + 1)) ≡ length (before_child s d n i) + length
      (items_below s d (node_child s n i)) + 1
  length-before_more i within = grind (arith, get_or-map, length-before_next, lists_length)

  -- after the last child stands nothing
  pub none_after_last : after_child s d n (length (node_items s n)) ≡ []
  none_after_last = grind (arith, drop_all, lists_length)
