-- The stored ranges of a table.
use Rattle.std.proofs.Common.{◌≡◌, ℕ, ◌-◌, ◌↔◌, Bool, List, [], ◌∷◌, Option, None, Some, inl, inr, nat_eq, refl, ap, sym, subst, arith}
use Rattle.std.specs.List.{AllByRecursion}
use Rattle.std.specs.Prelude.{IsTrue, is_some}
use Rattle.std.proofs.lemmas.Bool.{false≢true}
use Rattle.btree_range_map.specs.AnyRange.{AnyRange}
use Rattle.btree_range_map.specs.Bindings.{IsBound, IsItemFor}
use Rattle.btree_range_map.specs.Intervals.{Any}
use Rattle.btree_range_map.specs.Item.{Item}
use Rattle.btree_range_map.specs.Order.{KeyOrder}
use Rattle.btree_range_map.specs.Range.{Holds}
use Rattle.address_keys.specs.Families.{IsFamily}
use Rattle.address_prefixes.specs.Spans.{HasSpan, past_number, span, start_number}
use Rattle.address_tables.proofs.Items.{Coarse, Known, have_spans}
use Rattle.address_table_lists.specs.Lookups.{IsStored, IsStoredAround}
use Rattle.address_table_lists.specs.declared.lookup.Stored.{Stored}

every_such : {X : Type 0} (P : X → Type 0) (xs : List X) (x : X) → AllByRecursion P xs
    → Any (λ y. y ≡ x) xs → P x
every_such P [] x all none = absurd none
every_such P (y ∷ xs) x all (inl here) = subst P here all.0
every_such P (y ∷ xs) x all (inr later) = every_such P xs x all.1 later

module _ {A V : Type 0} {order : KeyOrder A} {number : A → ℕ} {at : ℕ → A} {bits : ℕ}
    (family : IsFamily order number at bits) where
  pub has_span : (same : V → V → Bool) (items : List (Item (AnyRange A) V))
      (i : Item (AnyRange A) V) → Known family same items → Coarse family same items
      → Any (λ j. j ≡ i) items → HasSpan number bits i.key
  has_span same items i known coarse there =
      every_such (λ j. HasSpan number bits j.key) items i
      (have_spans family same items known coarse) there

module _ {A : Type 0} {order : KeyOrder A} {number : A → ℕ} {at : ℕ → A} {bits : ℕ}
    (family : IsFamily order number at bits) where
  -- an item that holds an address, by its numbers
  pub stored_is : (items : List (Item (AnyRange A) ℕ)) (i : Item (AnyRange A) ℕ) (address : A)
      → Known family nat_eq items → Coarse family nat_eq items → IsItemFor order items address i
      → (ends : ℕ × ℕ) → ends ≡ span number bits i.key
      → IsStored order number bits items address
      (record { first = ends.0; last = ends.1; value = i.value })
  stored_is items i address known coarse there ends same =
      let has = has_span family nat_eq items i known coarse there.1 in
      let some = has.0 in
      let top = has.1 in
      let first : ends.0 ≡ start_number number i.key.start = ap (λ e. e.0) same in
      let last : ends.1 ≡ past_number number bits i.key.end - 1 = ap (λ e. e.1) same in
      record {
        item = i;
        holds = there;
        first = ap (λ e. e.0) same;
        last = ap (λ e. e.1) same;
        value = refl;
        first_fits = omega (arith, first, some, top);
        last_fits = omega (arith, last, some, top);
      }

  is_bound : (items : List (Item (AnyRange A) ℕ)) (i : Item (AnyRange A) ℕ) (address : A)
      → Holds order i.key address → Any (λ j. j ≡ i) items → IsBound order items address
  is_bound [] i address holds none = absurd none
  is_bound (j ∷ items) i address holds (inl here) =
      inl (subst (λ k. Holds order k.key address) (sym here) holds)
  is_bound (j ∷ items) i address holds (inr later) = inr (is_bound items i address holds later)

  -- there is such an item just where the address has a value
  pub stored_tells : (items : List (Item (AnyRange A) ℕ)) (address : A) (stored : Option Stored)
      → IsStoredAround order number bits items address stored
      → IsTrue (is_some stored) ↔ IsBound order items address
  stored_tells items address None free =
      (λ yes. absurd (false≢true yes), λ bound. absurd (free bound))
  stored_tells items address (Some stored) there =
      (λ yes. is_bound items there.item address there.holds.0 there.holds.1, λ bound. refl)
