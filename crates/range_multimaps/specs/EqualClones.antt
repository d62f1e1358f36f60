-- The clone of a string, a tuple, a vector or a set equals its source, where the clones of its
-- parts do: what a map asks of the clones of its values.
use Rattle.std.specs.Prelude.{◌≡◌, Bool, ◌&&◌, Vec, vec_len, string_bytes, string_eq}
use Rattle.std.specs.Cmp.{IsEquivalence}
use Rattle.std.specs.Cmp.Lexicographic.{pointwise}
use Rattle.std.specs.List.{AllZip}
use Rattle.std.specs.String.{string_eq_equiv}
use Rattle.std.specs.BTreeSet as tree
use Rattle.std.specs.HashSet.{hash_set_eq}
use Rattle.std.specs.HashSet as table
use Rattle.std.proofs.lemmas.Bool.{and_from}
use Rattle.range_algebra.specs.Range.{ClonesAreEqual}
use Rattle.range_multimaps.specs.ListedMembers.{clones_pointwise, tree_clones, table_clones}

pub string_clones_are_equal : {Z : Type 0}
    → ClonesAreEqual (λ s t. string_bytes t ≡ string_bytes s) (string_eq {Z = Z})
string_clones_are_equal s t h = rw h (string_eq_equiv.refl s)

module _ {A : Type 0} (is_clone : A → A → Type 0) (eq : A → A → Bool)
    (equal : ClonesAreEqual is_clone eq) where
  pub vec_clones_are_equal : {Z : Type 0}
      → ClonesAreEqual (λ (v w : Vec A Z). AllZip is_clone v.items w.items
      × (vec_len w ≡ vec_len v)) (λ v w. pointwise eq v.items w.items)
  vec_clones_are_equal v w h = clones_pointwise eq is_clone equal v.items w.items h.0

  pub btree_set_clones_are_equal : ClonesAreEqual (tree.IsClone is_clone)
      (λ s t. pointwise eq s.keys t.keys)
  btree_set_clones_are_equal = tree_clones eq is_clone equal

  pub hash_set_clones_are_equal : IsEquivalence eq → {H : Type 0}
      → ClonesAreEqual (table.IsClone is_clone) (hash_set_eq {S = H} eq)
  hash_set_clones_are_equal laws = table_clones eq laws is_clone equal

  module _ {B : Type 0} (other_is_clone : B → B → Type 0) (other_eq : B → B → Bool)
      (other_equal : ClonesAreEqual other_is_clone other_eq) where
    pub pair_clones_are_equal : ClonesAreEqual
        (λ (x y : A × B). is_clone x.0 y.0 × other_is_clone x.1 y.1)
        (λ x y. eq x.0 y.0 && other_eq x.1 y.1)
    pair_clones_are_equal x y h =
        and_from (eq x.0 y.0) (other_eq x.1 y.1) (equal x.0 y.0 h.0) (other_equal x.1 y.1 h.1)

    module _ {C : Type 0} (last_is_clone : C → C → Type 0) (last_eq : C → C → Bool)
        (last_equal : ClonesAreEqual last_is_clone last_eq) where
      pub triple_clones_are_equal : ClonesAreEqual
          (λ (x y : A × B × C). is_clone x.0 y.0 × other_is_clone x.1 y.1 × last_is_clone x.2 y.2)
          (λ x y. (eq x.0 y.0 && other_eq x.1 y.1) && last_eq x.2 y.2)
      triple_clones_are_equal x y h =
          and_from (eq x.0 y.0 && other_eq x.1 y.1) (last_eq x.2 y.2)
          (and_from (eq x.0 y.0) (other_eq x.1 y.1) (equal x.0 y.0 h.0)
          (other_equal x.1 y.1 h.1)) (last_equal x.2 y.2 h.2)
