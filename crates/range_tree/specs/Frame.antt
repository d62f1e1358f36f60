-- A subtree means the same in two slabs that agree at each of its nodes.
use Rattle.std.proofs.Common.{◌≡◌, ℕ, zero, suc, ◌<◌, ◌≤◌, get_or, length, List, [], ◌∷◌, ◌++◌, map, refl, arith}
use Rattle.std.specs.List.{All, flat_map}
use Rattle.std.proofs.lemmas.List.Elements.{All-nil, All-cons, All-head, All-tail}
use Rattle.range_nodes.specs.Heap.{Heap, node_of, node_children}
use Rattle.range_tree.specs.Nodes.{items_below, used, Shaped, IsNode}
use Rattle.range_nodes.specs.Occurrences.{occurrences}
use Rattle.range_nodes.proofs.Occurrences.{occurrences-append, occurrences_here}

-- the slabs agree at each of these nodes
abbrev pub AgreeAt : {T : Type 0} → Heap T → Heap T → List ℕ → Type 0
AgreeAt s t ns = (k : ℕ) → 0 < occurrences k ns → node_of t k ≡ node_of s k

pub AgreeAt-left : {T : Type 0} (s t : Heap T) (xs ys : List ℕ) → AgreeAt s t (xs ++ ys)
    → AgreeAt s t xs
AgreeAt-left s t xs ys agree k among = agree k (omega (arith, occurrences-append k xs ys))

pub AgreeAt-right : {T : Type 0} (s t : Heap T) (xs ys : List ℕ) → AgreeAt s t (xs ++ ys)
    → AgreeAt s t ys
AgreeAt-right s t xs ys agree k among = agree k (omega (arith, occurrences-append k xs ys))

module _ {T : Type 0} where
  -- a subtree is the same in both
  pub record SameBelow (s t : Heap T) (d n : ℕ) : Type 0 where
    pub items_below_same : items_below t d n ≡ items_below s d n
    pub used_same : used t d n ≡ used s d n
    pub shaped_same : Shaped s d n → Shaped t d n

module _ {T : Type 0} where
  pub record SameChildren (s t : Heap T) (d : ℕ) (ns : List ℕ) : Type 0 where
    pub items_below_same : map (items_below t d) ns ≡ map (items_below s d) ns
    pub used_same : flat_map (used t d) ns ≡ flat_map (used s d) ns
    pub shaped_same : All (Shaped s d) ns → All (Shaped t d) ns

same_children_from : {T : Type 0} (s t : Heap T) (d : ℕ)
    → ((n : ℕ) → AgreeAt s t (used s d n) → SameBelow s t d n) → (ns : List ℕ)
    → AgreeAt s t (flat_map (used s d) ns) → SameChildren s t d ns
same_children_from s t d below [] agree =
    record { items_below_same = refl; used_same = refl; shaped_same = λ h. All-nil (Shaped t d) }
same_children_from s t d below (n ∷ ns) agree =
    let first = below n (AgreeAt-left s t (used s d n) (flat_map (used s d) ns) agree) in
    let later =
    same_children_from s t d below ns
    (AgreeAt-right s t (used s d n) (flat_map (used s d) ns) agree) in
    record {
      items_below_same = rw (first.items_below_same, later.items_below_same);
      used_same = rw (first.used_same, later.used_same);
      shaped_same =
          λ h. All-cons (Shaped t d) n ns (first.shaped_same (All-head (Shaped s d) n ns h))
          (later.shaped_same (All-tail (Shaped s d) n ns h));
    }

pub IsNode-same : {T : Type 0} {least most : ℕ} {s : Heap T} (t : Heap T) {d n : ℕ}
    → node_of t n ≡ node_of s n → IsNode least most s d n → IsNode least most t d n
IsNode-same t here node =
    record {
      present = rw here node.present;
      enough = rw here node.enough;
      fits = rw here node.fits;
      branches = rw here node.branches;
    }

pub same_below : {T : Type 0} (s t : Heap T) (d n : ℕ) → AgreeAt s t (used s d n)
    → SameBelow s t d n
unfolding items_below used Shaped
same_below s t zero n agree =
    record { items_below_same = refl; used_same = refl; shaped_same = λ h. h }
same_below s t (suc d) n agree =
    let here : node_of t n ≡ node_of s n =
    agree n (occurrences_here n (flat_map (used s d) (node_children s n))) in
    let children =
    same_children_from s t d (same_below s t d) (node_children s n)
    (AgreeAt-right s t (n ∷ []) (flat_map (used s d) (node_children s n)) agree) in
    record {
      items_below_same = rw (here, children.items_below_same);
      used_same = rw (here, children.used_same);
      shaped_same = λ h. (IsNode-same t here h.0, rw here (children.shaped_same h.1));
    }

pub same_children : {T : Type 0} (s t : Heap T) (d : ℕ) (ns : List ℕ)
    → AgreeAt s t (flat_map (used s d) ns) → SameChildren s t d ns
same_children s t d ns agree = same_children_from s t d (same_below s t d) ns agree

pub used_kid_le : {T : Type 0} (s : Heap T) (d i : ℕ) (ks : List ℕ) (k : ℕ) → i < length ks
    → occurrences k (used s d (get_or ks i 0)) ≤ occurrences k (flat_map (used s d) ks)
used_kid_le s d i [] k within = absurd (omega arith)
used_kid_le s d zero (n ∷ ks) k within =
    omega (arith, occurrences-append k (used s d n) (flat_map (used s d) ks))
used_kid_le s d (suc i) (n ∷ ks) k within =
    omega (
      arith,
      used_kid_le s d i ks k (omega arith),
      occurrences-append k (used s d n) (flat_map (used s d) ks),
    )

pub used_kid : {T : Type 0} (s : Heap T) (d i : ℕ) (ks : List ℕ) (k : ℕ)
    → 0 < occurrences k (used s d (get_or ks i 0)) → i < length ks
    → 0 < occurrences k (flat_map (used s d) ks)
used_kid s d i ks k among within = omega (arith, among, used_kid_le s d i ks k within)
