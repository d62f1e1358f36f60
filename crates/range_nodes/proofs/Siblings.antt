-- Items that move between two children of a node and the node.
use Rattle.std.proofs.Common.{◌≡◌, ℕ, zero, suc, ◌+◌, ◌-◌, ◌<◌, List, [], ◌∷◌, ◌++◌, length, get_or, take, drop, Some, sym, ap, subst, ◌∙◌, arith, slice_get}
use Rattle.std.proofs.Math.ListN.{set}
use Rattle.std.specs.List.{insert, remove}
use Rattle.std.proofs.lemmas.List.{drop_all, drop_more, take_all, take_more, nil_from_length}
use Rattle.std.proofs.lemmas.List.Edits.{insert_end}
use Rattle.std.proofs.lemmas.Option.{slice_get-get_or}
use Rattle.range_nodes.specs.Heap.{Heap, node_of, items_of, children_of, child_count, with_child, Writes, HasPair, RotatesLeft, RotatesRight, Merges, Absorbs, left_items, right_items, left_children, right_children, node_items, node_children, node_child}
use Rattle.range_store.proofs.Edits.{without_last}
use Rattle.range_nodes.proofs.Heaps.{write_first, remove_first, remove_last}

-- the children with the last of others at the front
front_child : {X : Type 0} (below : ℕ) (ks : List ℕ) (zs : List X) (ls : List ℕ)
    → length ls ≡ child_count below (length zs) → with_child ks 0 (slice_get ls (length zs)) ≡ drop
    (length zs) ls ++ ks
front_child zero ks zs ls others = grind (arith, nil_from_length, drop_all)
front_child (suc below) ks zs ls others =
    let at = get_or ls (length zs) 0 in
    let some : slice_get ls (length zs) ≡ Some at = grind (arith, slice_get-get_or) in
    grind (arith, drop_more, drop_all)

module _ {T : Type 0} {s : Heap T} (t u v : Heap T) {n i : ℕ} (pair : HasPair s n i)
    (down up : T) where
  abbrev l : ℕ
  l = node_child s n i

  abbrev r : ℕ
  r = node_child s n (i + 1)

  pub rotated_left : up ≡ get_or (right_items s n i) 0 up → 0 < length (right_items s n i)
      → down ≡ get_or (node_items t n) i down
      → Writes s t r (remove (right_items s n i) 0) (remove (right_children s n i) 0)
      → Writes t u n (set (node_items t n) i up) (node_children t n)
      → Writes u v l (insert (node_items u l) (length (node_items u l)) down)
      (with_child (node_children u l) (length (node_items u l) + 1)
      (slice_get (right_children s n i) 0))
      → RotatesLeft s v n i
  rotated_left up_is some down_is one two three =
      let parent : node_of t n ≡ node_of s n = one.others n (λ e. pair.right_apart (sym e)) in
      let here = subst (λ node. Writes t u n (set (items_of node) i up) (children_of node)) parent
      two in
      let left : node_of u l ≡ node_of s l = grind arith in
      let items : insert (node_items u l) (length (node_items u l)) down
      ≡ left_items s n i ++ down ∷ [] =
      insert_end (node_items u l) down ∙ ap (λ node. items_of node ++ down ∷ []) left in
      let children : with_child (node_children u l) (length (node_items u l) + 1)
      (slice_get (right_children s n i) 0) ≡ left_children s n i ++ take 1
      (right_children s n i) = grind (arith, insert_end, nil_from_length) in
      let swapped = write_first t u v n l (set (node_items s n) i up)
      (node_children s n) pair.left_apart here (rw (items, children) at three) in
      let moved = write_first s t swapped.between r l (drop 1 (right_items s n i))
      (drop 1 (right_children s n i)) pair.apart one swapped.first in
      grind arith

  pub rotated_right : up ≡ get_or (left_items s n i) (length (left_items s n i) - 1) up
      → 0 < length (left_items s n i) → down ≡ get_or (node_items t n) i down
      → Writes s t l (remove (left_items s n i) (length (left_items s n i) - 1))
      (remove (left_children s n i) (length (left_items s n i)))
      → Writes t u n (set (node_items t n) i up) (node_children t n)
      → Writes u v r (insert (node_items u r) 0 down) (with_child (node_children u r) 0
      (slice_get (left_children s n i) (length (left_items s n i))))
      → RotatesRight s v n i
  rotated_right up_is some down_is one two three =
      let xs = left_items s n i in
      let ks = left_children s n i in
      let last : length xs ≡ (length xs - 1) + 1 = omega arith in
      let fewer : remove xs (length xs - 1) ≡ take (length xs - 1) xs = grind (
        arith,
        without_last,
      ) in
      let parent : node_of t n ≡ node_of s n = one.others n (λ e. pair.left_apart (sym e)) in
      let here = subst (λ node. Writes t u n (set (items_of node) i up) (children_of node)) parent
      two in
      let right : node_of u r ≡ node_of s r = grind arith in
      let items : insert (node_items u r) 0 down ≡ down ∷ right_items s n i
      = ap (λ node. down ∷ items_of node) right in
      let children : with_child (node_children u r) 0 (slice_get ks (length xs)) ≡ drop
      (length xs) ks ++ right_children s n i = grind (arith, front_child) in
      let swapped = write_first t u v n r (set (node_items s n) i up)
      (node_children s n) pair.right_apart here (rw (items, children) at three) in
      grind (arith, take_all, take_more, without_last)

module _ {T : Type 0} (s t u : Heap T) (n i : ℕ) (pair : HasPair s n i) (down : T) where
  pub merged : down ≡ get_or (node_items s n) i down → Writes s t n (remove (node_items s n) i)
      (remove (node_children s n) (i + 1))
      → Absorbs t u (node_child s n i) down (node_child s n (i + 1)) → Merges s u n i
  merged down_is one two =
      let l = node_child s n i in
      let r = node_child s n (i + 1) in
      let left : node_of t l ≡ node_of s l = one.others l pair.left_apart in
      let right : node_of t r ≡ node_of s r = one.others r pair.right_apart in
      let written = rw (left, right) at two.left in
      let xs = left_items s n i ++ down ∷ right_items s n i in
      let ks = left_children s n i ++ right_children s n i in
      let last = remove_last t two.between u l r xs ks (λ e. pair.apart (sym e)) two.right
      written in
      let lower = write_first s t last.between n l (remove (node_items s n) i)
      (remove (node_children s n) (i + 1)) pair.left_apart one last.first in
      let upper = remove_first lower.between last.between u n r (remove (node_items s n) i)
      (remove (node_children s n) (i + 1)) pair.right_apart lower.second last.second in
      grind arith
