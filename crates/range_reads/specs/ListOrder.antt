-- Equality, order and hash of lists of ranges with values: item by item, the range first.
use Rattle.std.specs.Prelude.{◌≡◌, ℕ, ◌++◌, refl, Bool, IsTrue, List, ◌&&◌}
use Rattle.range_reads.specs.Common.{Equal, fold, AllZip, KeyOrder, IsLawful, range_cmp, range_total, range_input, range_respects, AnyRange, Item, BindAlike, IsStored}
use Rattle.std.specs.declared.cmp.Ordering.{Ordering}
use Rattle.std.specs.Hash.{slice, items_Alike}
use Rattle.std.specs.Ordering.{eq_by_cmp, on, then_cmp}
use Rattle.std.specs.Cmp.{IsEquivalence, IsTotalOrder, on_equiv, and_equiv, on_total, then_total, eq_by_cmp_equiv, both_tied, first_so, second_so}
use Rattle.std.specs.Cmp.Lexicographic.{pointwise, slice_cmp, lists_equiv, lists_total, lists_ties}

module _ {K : Type 0} (order : KeyOrder K) {V : Type 0} where
  -- equal ranges, by position, with equal values
  abbrev pub same_item : (V → V → Bool) → Item (AnyRange K) V → Item (AnyRange K) V → Bool
  same_item same_value i j = eq_by_cmp (range_cmp order) i.key j.key && same_value i.value j.value

  -- as many items, each equal to the other's
  abbrev pub same_list : (V → V → Bool) → List (Item (AnyRange K) V) → List (Item (AnyRange K) V)
      → Bool
  same_list same_value = pointwise (same_item same_value)

  -- by the range, and then by the value
  abbrev pub item_cmp : (V → V → Ordering) → Item (AnyRange K) V → Item (AnyRange K) V → Ordering
  item_cmp value_cmp = then_cmp (on (λ i. i.key) (range_cmp order)) (on (λ i. i.value) value_cmp)

  -- in dictionary order
  abbrev pub list_cmp : (V → V → Ordering) → List (Item (AnyRange K) V) → List (Item (AnyRange K) V)
      → Ordering
  list_cmp value_cmp = slice_cmp (item_cmp value_cmp)

  -- any two stored lists that bind every key as these two do compare so
  abbrev pub CompareAlike : (V → V → Bool) → (V → V → Ordering) → List (Item (AnyRange K) V)
      → List (Item (AnyRange K) V) → Ordering → Type 0
  CompareAlike same_value value_cmp items others ordering =
      (left right : List (Item (AnyRange K) V)) → IsStored order same_value left
      → IsStored order same_value right → BindAlike order same_value items left
      → BindAlike order same_value others right → ordering ≡ list_cmp value_cmp left right

  -- what a hash is fed of an item
  abbrev pub item_input : (K → List (List ℕ)) → (V → List (List ℕ)) → Item (AnyRange K) V
      → List (List ℕ)
  item_input key_input value_input i = range_input order key_input i.key ++ value_input i.value

  -- the number of items, and then each
  abbrev pub list_input : (K → List (List ℕ)) → (V → List (List ℕ)) → List (Item (AnyRange K) V)
      → List (List ℕ)
  list_input key_input value_input = slice (item_input key_input value_input)

  -- the state of a hasher has become what every stored list that binds every key as this one does
  -- makes of it
  abbrev pub HashAlike : {H : Type 0} → (V → V → Bool) → (K → List (List ℕ)) → (V → List (List ℕ))
      → (H → List ℕ → H) → List (Item (AnyRange K) V) → H → H → Type 0
  HashAlike same_value key_input value_input write items old new =
      (others : List (Item (AnyRange K) V)) → IsStored order same_value others
      → BindAlike order same_value items others
      → new ≡ fold write old (list_input key_input value_input others)

  module _ (lawful : IsLawful order) where
    pub lists_equivalence : (same_value : V → V → Bool) → IsEquivalence same_value
        → IsEquivalence (same_list same_value)
    lists_equivalence same_value values =
        lists_equiv (and_equiv (on_equiv (λ i. i.key) (eq_by_cmp_equiv (range_total order lawful)))
        (on_equiv (λ i. i.value) values))

    pub lists_order : (value_cmp : V → V → Ordering) → IsTotalOrder value_cmp
        → IsTotalOrder (list_cmp value_cmp)
    lists_order value_cmp total =
        lists_total (then_total (on_total (λ i. i.key) (range_total order lawful))
        (on_total (λ i. i.value) total))

  -- the order answers Equal of what is equal
  pub lists_tied : (same_value : V → V → Bool) (value_cmp : V → V → Ordering)
      → ((u v : V) → same_value u v ≡ eq_by_cmp value_cmp u v)
      → (items others : List (Item (AnyRange K) V))
      → same_list same_value items others ≡ eq_by_cmp (list_cmp value_cmp) items others
  lists_tied same_value value_cmp tied items others =
      lists_ties (item_cmp value_cmp)
      (λ i j. both_tied (eq_by_cmp (range_cmp order) i.key j.key) (same_value i.value j.value)
      (range_cmp order i.key j.key) (value_cmp i.value j.value) refl (tied i.value j.value))
      items others

  module _ (same_value : V → V → Bool) (key_input : K → List (List ℕ))
      (value_input : V → List (List ℕ))
      (keys : (a b : K) → order.cmp a b ≡ Equal → key_input a ≡ key_input b)
      (values : (u v : V) → IsTrue (same_value u v) → value_input u ≡ value_input v) where
    items_fed : (i j : Item (AnyRange K) V) → IsTrue (same_item same_value i j)
        → item_input key_input value_input i ≡ item_input key_input value_input j
    items_fed i j e =
        let ranges =
        range_respects order key_input keys i.key j.key
        (first_so (eq_by_cmp (range_cmp order) i.key j.key) (same_value i.value j.value) e) in
        let rest =
        values i.value j.value (second_so (eq_by_cmp (range_cmp order) i.key j.key)
        (same_value i.value j.value) e) in
        λ n. ranges n ++ rest n

    -- equal lists are fed alike
    pub lists_fed : (items others : List (Item (AnyRange K) V))
        → IsTrue (same_list same_value items others)
        → list_input key_input value_input items ≡ list_input key_input value_input others
    lists_fed = (items_Alike (record { fed = items_fed })).fed

module _ {K : Type 0} (order : KeyOrder K) {V : Type 0} (same_value : V → V → Bool) where
  -- equal ranges with equal values, in the same places
  abbrev pub IsCopyOf : List (Item (AnyRange K) V) → List (Item (AnyRange K) V) → Type 0
  IsCopyOf =
      AllZip (λ i j. (range_cmp order i.key j.key ≡ Equal) × IsTrue (same_value i.value j.value))
