-- Sets that are kept as lists: when a list has a value, and when two lists have the same ones.
use Rattle.std.proofs.Common.{◌≡◌, ◌↔◌, refl, sym, ap, ◌∙◌, subst, Bool, false, ◌||◌, IsTrue, List, [], ◌∷◌}
use Rattle.std.specs.declared.cmp.Ordering.{Ordering}
use Rattle.std.specs.Ordering.{eq_by_cmp}
use Rattle.std.specs.Cmp.{IsEquivalence, IsTotalOrder, eq_by_cmp_equiv}
use Rattle.std.specs.Cmp.Lexicographic.{pointwise}
use Rattle.std.specs.List.{AllZip}
use Rattle.std.specs.BTreeSet.{BTreeSet}
use Rattle.std.specs.BTreeSet as tree
use Rattle.std.specs.HashSet.{HashSet, hash_set_eq}
use Rattle.std.specs.HashSet as table
use Rattle.std.proofs.lemmas.Map.Lookups.{hash_set_eq_decides}
use Rattle.std.proofs.lemmas.Bool.{and_from, and_parts, or_left}
use Rattle.range_algebra.specs.Range.{ClonesAreEqual}
use Rattle.range_map.specs.OrderedSets.{has_value, equal_value, to_equal}
use Rattle.range_multimaps.specs.Members.{HasNone, HaveSame, HasEither, HasFirstAlone}

module _ {V : Type 0} (eq : V → V → Bool) (laws : IsEquivalence eq) where
  pointwise_same : (xs ys : List V) → IsTrue (pointwise eq xs ys) → (v : V)
      → has_value eq xs v ≡ has_value eq ys v
  pointwise_same [] [] h v = refl
  pointwise_same [] (y ∷ ys) h v = absurd cc
  pointwise_same (x ∷ xs) [] h v = absurd cc
  pointwise_same (x ∷ xs) (y ∷ ys) h v = let both =
      and_parts (eq x y) (pointwise eq xs ys) h in λ i. to_equal eq laws v x y both.0 i
      || pointwise_same xs ys both.1 v i

  none_is_empty : (xs : List V) → ((v : V) → has_value eq xs v ≡ false) → xs ≡ []
  none_is_empty [] h = refl
  none_is_empty (x ∷ xs) h = let own =
      or_left (eq x x) (has_value eq xs x) (laws.refl x) in let none = h x in absurd cc

module _ {V : Type 0} (eq : V → V → Bool) (is_clone : V → V → Type 0)
    (equal : ClonesAreEqual is_clone eq) where
  pub clones_pointwise : (xs ys : List V) → AllZip is_clone xs ys → IsTrue (pointwise eq xs ys)
  clones_pointwise [] [] h = refl
  clones_pointwise [] (y ∷ ys) h = absurd h
  clones_pointwise (x ∷ xs) [] h = absurd h
  clones_pointwise (x ∷ xs) (y ∷ ys) h =
      and_from (eq x y) (pointwise eq xs ys) (equal x y h.0) (clones_pointwise xs ys h.1)

module _ {V : Type 0} (cmp : V → V → Ordering) (total : IsTotalOrder cmp) where
  abbrev tied : V → V → Bool
  tied = eq_by_cmp cmp

  -- what a sorted set promises, by its order
  module _ (eq : V → V → Bool) (ties : (x y : V) → eq x y ≡ eq_by_cmp cmp x y) where
    abbrev alike : eq ≡ tied
    alike = λ i x y. ties x y i

    pub tree_equal_value : (s : BTreeSet V) (v w : V) → IsTrue (eq v w)
        → tree.contains cmp s v ≡ tree.contains cmp s w
    tree_equal_value s v w e =
        equal_value tied (eq_by_cmp_equiv total) s.keys v w (sym (ties v w) ∙ e)

    pub tree_equal_same : (s t : BTreeSet V) → IsTrue (pointwise eq s.keys t.keys)
        → HaveSame (tree.contains cmp) s t
    tree_equal_same s t h =
        pointwise_same tied (eq_by_cmp_equiv total) s.keys t.keys
        (subst (λ e. IsTrue (pointwise e s.keys t.keys)) alike h)

    module _ (is_clone : V → V → Type 0) (equal : ClonesAreEqual is_clone eq)
        (s t new : BTreeSet V) where
      pub tree_either : tree.HoldsClonesOf cmp is_clone (tree.IsUnion cmp s t)
          (tree.union cmp s t) new → HasEither (tree.contains cmp) s t new
      tree_either (ys, is, zip, from, kept) = kept (λ x y h. sym (ties x y) ∙ equal x y h)

      pub tree_first_alone : tree.HoldsClonesOf cmp is_clone (tree.IsDifference cmp s t)
          (tree.difference cmp s t) new → HasFirstAlone (tree.contains cmp) s t new
      tree_first_alone (ys, is, zip, from, kept) = kept (λ x y h. sym (ties x y) ∙ equal x y h)

  pub tree_void : (s : BTreeSet V) → tree.IsEmpty s ↔ HasNone (tree.contains cmp) s
  tree_void s = (
    λ e v. ap (λ ks. has_value tied ks v) e,
    λ none. none_is_empty tied (eq_by_cmp_equiv total) s.keys none,
  )

module _ {V : Type 0} (eq : V → V → Bool) where
  pub tree_void_equal : (s t : BTreeSet V) → IsTrue (pointwise eq s.keys t.keys) → tree.IsEmpty s
      → tree.IsEmpty t
  tree_void_equal s t h e = none_left t.keys (subst (λ ks. IsTrue (pointwise eq ks t.keys)) e h)
    where
      none_left : (ks : List V) → IsTrue (pointwise eq [] ks) → ks ≡ []
      none_left [] h = refl
      none_left (k ∷ ks) h = absurd cc

  pub tree_clones : (is_clone : V → V → Type 0) → ClonesAreEqual is_clone eq
      → ClonesAreEqual (tree.IsClone is_clone) (λ s t. pointwise eq s.keys t.keys)
  tree_clones is_clone equal s t h = clones_pointwise eq is_clone equal s.keys t.keys h

  -- what a set that is kept by hashes promises
  module _ (laws : IsEquivalence eq) {H : Type 0} where
    pub table_void : (s : HashSet V H) → table.IsEmpty s ↔ HasNone (table.contains eq) s
    table_void s =
        (λ e v. ap (λ ks. has_value eq ks v) e, λ none. none_is_empty eq laws s.keys none)

    pub table_equal_value : (s : HashSet V H) (v w : V) → IsTrue (eq v w)
        → table.contains eq s v ≡ table.contains eq s w
    table_equal_value s v w e = equal_value eq laws s.keys v w e

    pub table_equal_same : (s t : HashSet V H) → IsTrue (hash_set_eq eq s t)
        → HaveSame (table.contains eq) s t
    table_equal_same s t h = (hash_set_eq_decides laws s t).0 h

    pub table_same_equal : (s t : HashSet V H) → HaveSame (table.contains eq) s t
        → IsTrue (hash_set_eq eq s t)
    table_same_equal s t same = (hash_set_eq_decides laws s t).1 same

    pub table_void_equal : (s t : HashSet V H) → IsTrue (hash_set_eq eq s t) → table.IsEmpty s
        → table.IsEmpty t
    table_void_equal s t h e =
        (table_void t).1 (λ v. sym (table_equal_same s t h v) ∙ (table_void s).0 e v)

    pub table_clones : (is_clone : V → V → Type 0) → ClonesAreEqual is_clone eq
        → ClonesAreEqual (table.IsClone is_clone) (hash_set_eq {S = H} eq)
    table_clones is_clone equal s t h =
        table_same_equal s t (pointwise_same eq laws s.keys t.keys
        (clones_pointwise eq is_clone equal s.keys t.keys h))
