-- A list of clones: equal item by item to its source, and in the same form.
use Rattle.range_map.proofs.Common.{arith, common_steps, ◌≡◌, sym, ◌∙◌, List, [], ◌∷◌, Bool, true, ◌&&◌, IsTrue, All, AllZip, Every, Equal, is_eq, eq_by_cmp, Equal-is, Ordering, IsEquivalence, alike_right, tied_back, and_from, and_parts, KeyOrder, IsLawful, start_position, end_position, position_cmp, position_total, Position, Bound, IsBoundClone, range_clone, IsKeyRange, IsEmptyRange, range_cmp, range_total, AnyRange, Item, IsCopyOf, LiesBefore, Touches, IsStored, both_equal, eq_is_equal, before_is, nonempty_good, touches_is, IsListed, stored_list_is_listed, stored_by, eq_le, eq_ge, le_trans, recursion_from_All}
use Rattle.range_algebra.specs.Clones.{IsBoundInfallible}
use Rattle.range_runs.specs.Clones.{ClonesNeverFail}
use Rattle.range_runs.proofs.Extents.{past_le}

-- clones of keys are tied in their order where clones are equal
pub clones_tied : {K : Type 0} {tell cmp : K → K → Ordering} {eq : K → K → Bool}
    {is_clone : K → K → Type 0} → ((a b : K) → tell a b ≡ cmp a b)
    → ((a b : K) → eq a b ≡ eq_by_cmp tell a b) → ((a b : K) → is_clone a b → IsTrue (eq a b))
    → (a b : K) → is_clone a b → cmp a b ≡ Equal
clones_tied told equal keys a b h = sym (told a b) ∙ (Equal-is _).0 (sym (equal a b) ∙ keys a b h)

-- no clone of a bound fails where none of a key does
pub bound_never_fails : {K : Type 0} {is_infallible : K → Type 0} → ClonesNeverFail is_infallible
    → (bound : Bound K) → IsBoundInfallible is_infallible bound
bound_never_fails never bound = grind (arith, common_steps)

module _ {K : Type 0} {order : KeyOrder K} (lawful : IsLawful order) where
  abbrev Same : Position K → Position K → Type 0
  Same p q = position_cmp order.cmp p q ≡ Equal

  equal_positions_compare_alike : (p q s t : Position K) → Same p q → Same s t
      → position_cmp order.cmp p s ≡ position_cmp order.cmp q t
  equal_positions_compare_alike p q s t e f =
      let total =
      position_total order.cmp lawful.total in total.congr p q s e
      ∙ alike_right total s t q f

  starts_same : (r s : AnyRange K) → range_cmp order r s ≡ Equal
      → Same (start_position order r.start) (start_position order s.start)
  starts_same r s e = (both_equal _ _ e).0

  ends_same : (r s : AnyRange K) → range_cmp order r s ≡ Equal
      → Same (end_position order r.end) (end_position order s.end)
  ends_same r s e = (both_equal _ _ e).1

  same_empty : (r s : AnyRange K) → range_cmp order r s ≡ Equal → IsEmptyRange order r
      → IsEmptyRange order s
  same_empty r s e h =
      sym (equal_positions_compare_alike (start_position order r.start)
      (start_position order s.start) (end_position order r.end) (end_position order s.end)
      (starts_same r s e) (ends_same r s e)) ∙ h

  same_before : (r s r' s' : AnyRange K) → range_cmp order r r' ≡ Equal
      → range_cmp order s s' ≡ Equal → LiesBefore order r' s' → LiesBefore order r s
  same_before r s r' s' e f h =
      equal_positions_compare_alike (end_position order r.end) (end_position order r'.end)
      (start_position order s.start) (start_position order s'.start) (ends_same r r' e)
      (starts_same s s' f) ∙ h

  same_touches : (r s r' s' : AnyRange K) → IsKeyRange order r → IsKeyRange order s
      → IsKeyRange order r' → IsKeyRange order s' → (IsEmptyRange order s → ⊥)
      → (IsEmptyRange order s' → ⊥) → LiesBefore order r s → LiesBefore order r' s'
      → range_cmp order r r' ≡ Equal → range_cmp order s s' ≡ Equal → Touches order r s
      → Touches order r' s'
  same_touches r s r' s' known others known' others' full full' before before' e f h =
      let le = (before_is order lawful r.end s.start known.1 others.0).0 before in
      let le' = (before_is order lawful r'.end s'.start known'.1 others'.0).0 before' in
      let back =
      (touches_is order lawful r.end s others
      ((nonempty_good order lawful s others).0 full) le).0 h in
      let start = eq_ge lawful _ _ (starts_same s s' f) in
      let end =
      past_le order lawful r.end r'.end known.1 known'.1 (eq_le lawful _ _ (ends_same r r' e)) in
      (touches_is order lawful r'.end s' others' ((nonempty_good order lawful s' others').0 full')
      le').1 (le_trans lawful _ _ _ start (le_trans lawful _ _ _ back end))

  module _ {V : Type 0} {same : V → V → Bool} (equal : IsEquivalence same) where
    same_values : (v w v' w' : V) → same v v' ≡ true → same w w' ≡ true → same v w ≡ true
        → same v' w' ≡ true
    same_values v w v' w' e f h = grind (arith, common_steps, equal.congr, equal.symm)

    copy_full : (i j : Item (AnyRange K) V) → range_cmp order i.key j.key ≡ Equal
        → (IsEmptyRange order j.key → ⊥) → IsEmptyRange order i.key → ⊥
    copy_full i j e full h = full (same_empty i.key j.key e h)

    copy_listed : (copy items : List (Item (AnyRange K) V)) → IsCopyOf order same copy items
        → Every (λ i. IsKeyRange order i.key) copy
        → Every (λ i. IsKeyRange order i.key) items
        → Every (λ i. ¬ IsEmptyRange order i.key) items
        → IsListed order lawful same items → IsListed order lawful same copy
    copy_listed [] items zip known known' full h = tt
    copy_listed (i ∷ []) (j ∷ others) zip known known' full h =
        (known.0, copy_full i j zip.0.0 full.0)
    copy_listed (i ∷ i' ∷ rest) (j ∷ []) zip known known' full h = absurd zip.1
    copy_listed (i ∷ i' ∷ rest) (j ∷ j' ∷ others) zip known known' full h =
        let before = same_before i.key i'.key j.key j'.key zip.0.0 zip.1.0.0 h.2 in
        let next = copy_full i' j' zip.1.0.0 full.1.0 in (
          known.0,
          copy_full i j zip.0.0 h.1,
          before,
          λ touching s.
              h.3 (same_touches i.key i'.key j.key j'.key known.0 known.1.0 h.0 known'.1.0 next
              full.1.0 before h.2 zip.0.0 zip.1.0.0 touching)
              (same_values i.value i'.value j.value j'.value zip.0.1 zip.1.0.1 s),
          copy_listed (i' ∷ rest) (j' ∷ others) zip.1 known.1 known'.1 full.1 h.4,
        )
    copy_listed copy items zip known known' full h = absurd zip

    pub copy_stored : (copy items : List (Item (AnyRange K) V)) → IsCopyOf order same copy items
        → All (λ i. IsKeyRange order i.key) copy → IsStored order same items
        → IsStored order same copy
    copy_stored copy items zip known h =
        stored_by order lawful same copy (copy_listed copy items zip
        (recursion_from_All (λ i. IsKeyRange order i.key) copy known) h.known h.nonempty
        (stored_list_is_listed order lawful same items h))

    pub equal_items_are_copy : (items copy : List (Item (AnyRange K) V))
        → AllZip (λ x y. (is_eq (range_cmp order y.key x.key) && same y.value x.value) ≡ true) items
        copy → IsCopyOf order same copy items
    equal_items_are_copy [] [] zip = tt
    equal_items_are_copy (x ∷ xs) (y ∷ ys) zip =
        grind (arith, common_steps, and_parts, eq_is_equal, equal_items_are_copy xs ys zip.1)
    equal_items_are_copy xs ys zip = absurd zip

    -- the clone of an item equals it
    pub item_clone : (is_clone : K → K → Type 0)
        (keys : (x y : K) → is_clone x y → order.cmp x y ≡ Equal) (is_value_clone : V → V → Type 0)
        (values : (x y : V) → is_value_clone x y → same x y ≡ true) (x y : Item (AnyRange K) V)
        → (IsBoundClone is_clone x.key.start y.key.start
        × IsBoundClone is_clone x.key.end y.key.end) → is_value_clone x.value y.value
        → (is_eq (range_cmp order y.key x.key) && same y.value x.value) ≡ true
    item_clone is_clone keys is_value_clone values x y key value =
        grind (arith, common_steps, and_from, tied_back, range_total, range_clone, equal.symm)
