-- What a search may ask of a node, and how many items pass below it.
use Rattle.std.proofs.Common.{◌≡◌, ◌⊎◌, ℕ, suc, ◌+◌, ◌<◌, ◌≤◌, Bool, List, [], ◌∷◌, length, get_or, map, ap, ◌∙◌, arith, count_by}
use Rattle.std.proofs.lemmas.List.{append-nil, length-append, length-map, get_or-map}
use Rattle.std.proofs.lemmas.List.Sums.{count_by-le-length}
use Rattle.range_nodes.specs.Heap.{Heap, child_count, node_items, node_children, node_child}
use Rattle.range_tree.specs.Falling.{Falls}
use Rattle.range_tree.specs.Nodes.{weave, rest_of, before, items_below, ShapedBut, child_lists, before_child}
use Rattle.range_tree.proofs.Below.{lists_length, items_below_at, weave_items_below, child_count_cases}
use Rattle.range_tree.proofs.Front.{falls_parts, count-append, count-yes}

module _ {T : Type 0} (p : T → Bool) where
  count-rest_of : (xs : List T) (ks : List (List T)) → length ks ≡ length xs
      → count_by p xs ≤ count_by p (rest_of xs ks)
  count-rest_of xs [] same = omega arith
  count-rest_of [] (j ∷ ks) same = absurd (omega arith)
  count-rest_of (x ∷ xs) (j ∷ ks) same =
      grind (arith, count-append, count-yes, count-rest_of xs ks (omega arith))

  falls_rest_of : (xs : List T) (ks : List (List T)) → length ks ≡ length xs
      → Falls p (rest_of xs ks) → Falls p xs
  unfolding Falls
  falls_rest_of xs [] same falls = falls
  falls_rest_of [] (j ∷ ks) same falls = absurd (omega arith)
  falls_rest_of (x ∷ xs) (j ∷ ks) same falls = (
    (grind (arith, count-append, count-rest_of)),
    falls_rest_of xs ks (omega arith) (falls_parts p j (rest_of xs ks) falls.1).back,
  )

  pub falls_weave : (xs : List T) (ks : List (List T))
      → (length ks ≡ 0) ⊎ (length ks ≡ length xs + 1) → Falls p (weave xs ks) → Falls p xs
  falls_weave xs ks fits falls = grind (arith, falls_rest_of, falls_parts)

  -- the list after the items that pass holds the rest of what passes
  pub count-weave : (xs : List T) (ks : List (List T)) → length ks ≡ length xs + 1
      → Falls p (weave xs ks)
      → count_by p (weave xs ks)
      ≡ length (before xs ks (count_by p xs)) + count_by p (get_or ks (count_by p xs) [])
  unfolding Falls
  count-weave xs [] many falls = absurd (omega arith)
  count-weave [] (k ∷ []) many falls = omega (arith, ap (count_by p) (append-nil k))
  count-weave [] (k ∷ j ∷ ks) many falls = absurd (omega arith)
  count-weave (x ∷ xs) (k ∷ []) many falls = absurd (omega arith)
  count-weave (x ∷ xs) (k ∷ j ∷ ks) many falls =
      let tail = weave xs (j ∷ ks) in
      let parts = falls_parts p k (x ∷ tail) falls in
      grind (
        arith,
        count-append,
        count-yes,
        length-append,
        count_by-le-length,
        count-weave xs (j ∷ ks) (omega arith) parts.back.1,
      )

pub fits_weave : {T : Type 0} (s : Heap T) (d n : ℕ)
    → length (node_children s n) ≡ child_count d (length (node_items s n))
    → (length (child_lists s d n) ≡ 0) ⊎ (length (child_lists s d n) ≡ length (node_items s n) + 1)
fits_weave s d n branches =
    child_count_cases d _ _ (length-map (node_children s n) (items_below s d) ∙ branches)

-- what a search may ask of a node
module _ {T : Type 0} (p : T → Bool) {least most : ℕ} {s : Heap T} {d n : ℕ}
    (shaped : ShapedBut least most s d n) where
  pub node_falls : Falls p (items_below s (suc d) n) → Falls p (node_items s n)
  node_falls falls = grind (arith, falls_weave, fits_weave, weave_items_below)

  module _ (inner : 0 < d) (i : ℕ) (within : i ≤ length (node_items s n)) where
    pub kid_falls : Falls p (items_below s (suc d) n) → Falls p (items_below s d (node_child s n i))
    kid_falls falls = grind (arith, items_below_at inner shaped i within, falls_parts)

  pub search_step : 0 < d → Falls p (items_below s (suc d) n)
      → count_by p (items_below s (suc d) n) ≡ length (before_child s d n
      (count_by p (node_items s n))) + count_by p
      (items_below s d (node_child s n (count_by p (node_items s n))))
  search_step inner falls =
      let xs = node_items s n in
      let ks = node_children s n in
      let within = count_by-le-length p xs in
      let main = count-weave p xs (map (items_below s d) ks) (lists_length inner shaped)
      (rw weave_items_below at falls) in
      grind (arith, get_or-map, weave_items_below)
