-- A node, or two, written with given items and children.
use Rattle.std.proofs.Common.{◌≡◌, ◌≢◌, ℕ, suc, ◌+◌, ◌-◌, ◌<◌, ◌≤◌, List, [], ◌∷◌, ◌++◌, length, get_or, take, drop, map, refl, sym, ap, ◌∙◌, subst, arith, Some, None, IsSome, Option}
use Rattle.std.specs.List.{All, flat_map}
use Rattle.std.proofs.lemmas.List.{append-nil, length-append, length-map, length-take-le, length-drop, take-append-drop, take-map, drop-map}
use Rattle.std.proofs.lemmas.List.Concat.{flat_map-append}
use Rattle.std.proofs.lemmas.List.Elements.{All-nil, All-cons, All-take, All-drop}
use Rattle.range_nodes.specs.Heap.{Heap, node_of, child_count, Writes, Stores, Divides, node_items, node_children}
use Rattle.range_nodes.specs.declared.nodes.Split.{Split}
use Rattle.range_nodes.specs.declared.nodes.TheConstants.{CAPACITY, MIN_LEN}
use Rattle.range_tree.specs.Nodes.{weave, items_below, used, Shaped, ShapedBut, here, Moves, Owned, tops, separators}
use Rattle.range_tree.specs.Contents.{IsContent, Settles}
use Rattle.range_nodes.specs.Occurrences.{occurrences}
use Rattle.range_nodes.proofs.Occurrences.{occurrences-append, occurrences-cons}
use Rattle.range_tree.specs.Frame.{AgreeAt, AgreeAt-left, AgreeAt-right, SameChildren, same_children}
use Rattle.range_tree.proofs.Below.{weave_items_below, used_is}
use Rattle.range_tree.proofs.Moves.{here_le, occurrences_self, SameNodes, Moves-like, Moves-then, Writes-moves, Stores-moves}
use Rattle.range_tree.proofs.Weaving.{weave_halves}

module _ {T : Type 0} where
  -- two nodes over d levels, of which one may lack an item
  pub record IsPair (s : Heap T) (d l r : ℕ) : Type 0 where
    pub left : ShapedBut (MIN_LEN - 1) CAPACITY s d l
    pub right : ShapedBut (MIN_LEN - 1) CAPACITY s d r
    pub owned : (k : ℕ) → occurrences k (used s (suc d) l ++ used s (suc d) r) ≤ here s k
    pub enough : MIN_LEN + MIN_LEN ≤ length (node_items s l) + 1 + length (node_items s r)

  -- they became one or two, with the item x between what they held
  pub record Rejoins (old new : Heap T) (d l : ℕ) (x : T) (r : ℕ)
      (split : Option (Split T)) : Type 0 where
    pub listed : weave (separators split) (map (items_below new (suc d)) (tops l split))
        ≡ items_below old (suc d) l ++ (x ∷ items_below old (suc d) r)
    pub moved : Moves old new (used old (suc d) l ++ used old (suc d) r)
        (flat_map (used new (suc d)) (tops l split))
    pub shaped : All (Shaped new (suc d)) (tops l split)

  -- a node of t has items and children of which s has the subtrees
  pub record Holds (s t : Heap T) (d n : ℕ) (xs : List T) (ks : List ℕ) : Type 0 where
    pub present : IsSome (node_of t n)
    pub items_are : node_items t n ≡ xs
    pub children_are : node_children t n ≡ ks
    pub same : SameChildren s t d ks

module _ {T : Type 0} {s t : Heap T} {d n : ℕ} {xs : List T} {ks : List ℕ}
    (holds : Holds s t d n xs ks) where
  pub held_items_below : items_below t (suc d) n ≡ weave xs (map (items_below s d) ks)
  held_items_below = grind (arith, weave_items_below)

  pub held_used : used t (suc d) n ≡ n ∷ flat_map (used s d) ks
  held_used = used_is t d n ∙ rw (holds.children_are, holds.same.used_same) refl

  pub held_shape : (least : ℕ) → least ≤ length xs → length xs ≤ CAPACITY
      → length ks ≡ child_count d (length xs) → All (Shaped s d) ks → ShapedBut least CAPACITY t d n
  held_shape least enough fits branches shaped = grind arith

-- a node that was written, once its children have the subtrees again
pub held_after : {T : Type 0} {q r s t : Heap T} {d n : ℕ} {xs : List T} {ks : List ℕ}
    → Writes q r n xs ks → node_of t n ≡ node_of r n → AgreeAt s t (flat_map (used s d) ks)
    → Holds s t d n xs ks
held_after {T} {q} {r} {s} {t} {d} {n} {xs} {ks} written kept agree =
    grind (arith, same_children s t d ks agree)

-- one that is new
pub held_new : {T : Type 0} {r s t : Heap T} {d n : ℕ} {xs : List T} {ks : List ℕ}
    → Stores r t n xs ks → AgreeAt s t (flat_map (used s d) ks) → Holds s t d n xs ks
held_new {T} {r} {s} {t} {d} {n} {xs} {ks} stored agree =
    grind (arith, same_children s t d ks agree)

-- a leaf with other items
pub bare_content : {T : Type 0} {least most : ℕ} {s : Heap T} {n : ℕ} (xs : List T)
    → ShapedBut least most s 0 n → Owned s 1 n → IsContent s 0 n xs (node_children s n)
bare_content xs shaped owned = grind (arith, used_is)

module _ {T : Type 0} {s : Heap T} (t : Heap T) {d n : ℕ} {xs : List T} {ks : List ℕ}
    (content : IsContent s d n xs ks) where
  -- the subtrees of the children do not have the node
  pub content_apart : (k : ℕ) → 0 < occurrences k (flat_map (used s d) ks) → k ≢ n
  content_apart k among same =
      omega (arith, content.owned k, occurrences-cons, here_le, occurrences_self)

  pub content_there : (k : ℕ) → 0 < occurrences k (flat_map (used s d) ks) → here s k ≡ 1
  content_there k among =
      omega (arith, content.owned k, occurrences-cons k n (flat_map (used s d) ks), here_le s k)

  module _ (written : Writes s t n xs ks) where
    pub written_agree : AgreeAt s t (flat_map (used s d) ks)
    written_agree k among = written.others k (content_apart k among)

    pub written_holds : Holds s t d n xs ks
    written_holds = held_after written refl written_agree

    pub written_settles : length xs ≤ CAPACITY → Settles s t d n xs ks None
    written_settles fits = record {
      listed = append-nil (items_below t (suc d) n) ∙ held_items_below written_holds;
      moved = subst (λ zs. Moves s t (n ∷ flat_map (used s d) ks) zs)
          (sym (append-nil (used t (suc d) n) ∙ held_used written_holds))
          (Writes-moves (flat_map (used s d) ks) written);
      shape = λ least small enough. grind (arith, written_holds);
    }

-- the items before and after the one at `half`, in two nodes
module _ {T : Type 0} {s t : Heap T} {d n r : ℕ} (half : ℕ) {xs : List T} {ks : List ℕ}
    (content : IsContent s d n xs ks) (low : half < length xs)
    (left : Holds s t d n (take half xs) (take (half + 1) ks))
    (right : Holds s t d r (drop (half + 1) xs) (drop (half + 1) ks)) where
  abbrev us : List ℕ
  us = take (half + 1) ks

  abbrev vs : List ℕ
  vs = drop (half + 1) ks

  pub left_items_below : items_below t (suc d) n ≡ weave (take half xs) (map (items_below s d) us)
  left_items_below = held_items_below left

  pub halves_listed : (middle : T) → middle ≡ get_or xs half middle
      → items_below t (suc d) n
      ++ (middle ∷ (items_below t (suc d) r ++ [])) ≡ weave xs (map (items_below s d) ks)
  halves_listed middle is =
      let next : suc half ≡ half + 1 = omega arith in
      let halves =
      rw next at
      (weave_halves xs (map (items_below s d) ks) half middle low (grind (arith, length-map))) in
      grind (arith, append-nil, take-map, drop-map, left_items_below, held_items_below right)

  right_used : used t (suc d) r ≡ r ∷ flat_map (used s d) vs
  right_used = held_used right

  pub halves_nodes : SameNodes (r ∷ n ∷ flat_map (used s d) ks)
      (used t (suc d) n ++ (used t (suc d) r ++ []))
  halves_nodes =
      let both : flat_map (used s d) ks ≡ flat_map (used s d) us ++ flat_map (used s d) vs =
      ap (flat_map (used s d)) (sym (take-append-drop (half + 1) ks))
      ∙ flat_map-append (used s d) us vs in
      grind (arith, held_used left, right_used, occurrences-cons, occurrences-append, length-append)

  left_length : length (take half xs) ≡ half
  left_length = length-take-le half xs (omega (arith, low))

  right_length : length (drop (half + 1) xs) ≡ length xs - half - 1
  right_length = omega (arith, length-drop (half + 1) xs, low)

  pub halves_shape : MIN_LEN ≤ half → half ≤ CAPACITY → half + 1 + MIN_LEN ≤ length xs
      → length xs ≤ half + 1 + CAPACITY → (least : ℕ) → least ≤ MIN_LEN
      → All (ShapedBut least CAPACITY t d) (n ∷ r ∷ [])
  halves_shape least_left most_left least_right most_right least small = All-cons
      (ShapedBut least CAPACITY t d) n (r ∷ [])
      (held_shape left least (omega (arith, left_length)) (omega (arith, left_length, most_left))
      ((grind (arith, length-take-le)) ∙ ap (child_count d) (sym left_length))
      (All-take (Shaped s d) (half + 1) ks content.shaped)) (All-cons (ShapedBut least CAPACITY t d)
      r [] (held_shape right least (omega (arith, right_length)) (omega (
        arith,
        right_length,
        most_right,
      )) ((grind (arith, length-drop)) ∙ ap (child_count d) (sym right_length)) (All-drop
      (Shaped s d) (half + 1) ks content.shaped)) (All-nil _))

-- they are parts of the children
pub part_agree : {T : Type 0} (s t : Heap T) (d half : ℕ) (ks : List ℕ)
    → AgreeAt s t (flat_map (used s d) ks)
    → AgreeAt s t (flat_map (used s d) (take half ks))
    × AgreeAt s t (flat_map (used s d) (drop half ks))
part_agree s t d half ks agree =
    let both : flat_map (used s d) ks ≡ flat_map (used s d) (take half ks)
    ++ flat_map (used s d) (drop half ks) =
    ap (flat_map (used s d)) (sym (take-append-drop half ks))
    ∙ flat_map-append (used s d) (take half ks) (drop half ks) in
    let parts = subst (AgreeAt s t) both agree in (
      AgreeAt-left s t (flat_map (used s d) (take half ks))
          (flat_map (used s d) (drop half ks)) parts,
      AgreeAt-right s t (flat_map (used s d) (take half ks))
          (flat_map (used s d) (drop half ks)) parts,
    )

module _ {T : Type 0} {s t : Heap T} {d n half : ℕ} {xs : List T} {ks : List ℕ} (split : Split T)
    (content : IsContent s d n xs ks) (cut : Divides s t n half xs ks split.middle split.right)
    (low : half < length xs) where
  pub cut_agree : AgreeAt s t (flat_map (used s d) ks)
  cut_agree k among = grind (arith, content_apart, content_there)

  pub left_holds : Holds s t d n (take half xs) (take (half + 1) ks)
  left_holds = held_after cut.first (grind arith) (part_agree s t d (half + 1) ks cut_agree).0

  pub right_holds : Holds s t d split.right (drop (half + 1) xs) (drop (half + 1) ks)
  right_holds = held_new cut.second (part_agree s t d (half + 1) ks cut_agree).1

  moved : Moves s t (n ∷ flat_map (used s d) ks)
      (used t (suc d) n ++ (used t (suc d) split.right ++ []))
  moved =
      let U = flat_map (used s d) ks in
      let first = Writes-moves (flat_map (used s d) ks) cut.first in
      let second = Stores-moves (n ∷ flat_map (used s d) ks) cut.second in
      Moves-like (n ∷ U) (used t (suc d) n ++ (used t (suc d) split.right ++ []))
      (record { occur = λ k. refl; len = refl })
      (halves_nodes half content low left_holds right_holds) (Moves-then first second)

  pub cut_settles : MIN_LEN ≤ half → half ≤ CAPACITY → half + 1 + MIN_LEN ≤ length xs
      → length xs ≤ half + 1 + CAPACITY → Settles s t d n xs ks (Some split)
  cut_settles least_left most_left least_right most_right = record {
    listed = halves_listed half content low left_holds right_holds split.middle cut.middle_is;
    moved = moved;
    shape = λ least small enough. halves_shape half content low left_holds right_holds least_left
        most_left least_right most_right least small;
  }
