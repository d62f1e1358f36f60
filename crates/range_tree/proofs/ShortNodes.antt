-- What is known of a node of whose children one may be short.
use Rattle.std.proofs.Common.{◌≡◌, ◌⊎◌, ℕ, suc, ◌+◌, ◌-◌, ◌<◌, ◌≤◌, List, ◌∷◌, length, get_or, take, drop, subst, inl, inr, arith, IsSome, sym}
use Rattle.std.specs.List.{All}
use Rattle.std.proofs.lemmas.List.{drop_more, get_or-take, length-take-le}
use Rattle.std.proofs.lemmas.List.Elements.{All-cons, All-head, All-tail, All-append, All-weaker}
use Rattle.range_nodes.specs.Heap.{Heap, node_of, node_items, node_children, node_child}
use Rattle.range_nodes.specs.declared.nodes.TheConstants.{CAPACITY, MIN_LEN}
use Rattle.range_tree.specs.Nodes.{items_below, Shaped, ShapedBut, Shrinks, MayBeRebalanced, IsLevelled}
use Rattle.range_tree.proofs.Below.{Shaped-from_but, Shaped-but}
use Rattle.range_tree.specs.Weave.{list_splits_at}

module _ {T : Type 0} (s : Heap T) (low n i : ℕ) (m : MayBeRebalanced s low n i) where
  abbrev xs : List T
  xs = node_items s n

  abbrev ks : List ℕ
  ks = node_children s n

  abbrev kid : ℕ
  kid = node_child s n i

  abbrev P : ℕ → Type 0
  P = Shaped s (suc low)

  abbrev Present : ℕ → Type 0
  Present c = IsSome (node_of s c)

  pub many : length ks ≡ length xs + 1
  many = m.node.branches

  present_of : (c : ℕ) → Shaped s (suc low) c → IsSome (node_of s c)
  present_of c shaped = (Shaped-but s low c shaped).node.present

  pub all_present : All (λ c. IsSome (node_of s c)) ks
  all_present =
      subst (All Present) (sym (list_splits_at ks i 0 (omega (arith, many, m.within))))
      (All-append Present (take i ks) (kid ∷ drop (i + 1) ks)
      (All-weaker P Present present_of (take i ks) m.before)
      (grind (arith, present_of)))

  pub stays_balanced : MIN_LEN ≤ length (node_items s kid)
      → Shrinks s s (suc low) n (items_below s (suc (suc low)) n)
  stays_balanced enough =
      let here = Shaped-from_but s low kid
      (grind arith) in
      let children =
      subst (All P) (sym (list_splits_at ks i 0 (omega (arith, many, m.within))))
      (All-append P (take i ks) (kid ∷ drop (i + 1) ks) m.before
      (All-cons P kid (drop (i + 1) ks) here m.behind)) in
      grind arith

  loose : (c : ℕ) → Shaped s (suc low) c → ShapedBut (MIN_LEN - 1) CAPACITY s low c
  loose c shaped = grind (arith, Shaped-but)

  with_behind : i < length xs → length (node_items s kid) < MIN_LEN → IsLevelled s low n i
  with_behind within short =
      let two : drop (i + 1) ks ≡ get_or ks (i + 1) 0 ∷ drop (i + 1 + 1) ks =
      drop_more ks (i + 1) 0 (omega arith) in
      let behind = subst (All P) two m.behind in
      let next = All-head P (get_or ks (i + 1) 0) (drop (i + 1 + 1) ks) behind in
      grind (arith, Shaped-but, All-tail P (get_or ks (i + 1) 0) (drop (i + 1 + 1) ks) behind)

  with_before : (j : ℕ) → j + 1 ≡ i → length (node_items s kid) < MIN_LEN → IsLevelled s low n j
  with_before j next short = grind (arith, get_or-take, length-take-le, Shaped-but, loose)

  pub pair_levelled : (j : ℕ) → j < length xs → (j ≡ i) ⊎ (j + 1 ≡ i)
      → length (node_items s kid) < MIN_LEN → IsLevelled s low n j
  pair_levelled j within (inl same) short = rw same (with_behind (omega arith) short)
  pair_levelled j within (inr next) short = with_before j next short
