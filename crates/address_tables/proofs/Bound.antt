-- Entries of one length bound in a table, one after the other.
use Rattle.std.proofs.Common.{◌≡◌, ℕ, ◌+◌, ◌-◌, ◌<◌, Bool, true, false, ◌==◌, if◌then◌else◌, List, [], ◌∷◌, ◌++◌, Option, Some, None, inl, inr, refl, ap, sym, subst, ◌∙◌, arith}
use Rattle.std.specs.List.{AllByRecursion}
use Rattle.std.specs.Option.{option_map}
use Rattle.std.proofs.lemmas.Bool.Decides.{nat_tests}
use Rattle.btree_range_map.specs.AnyRange.{AnyRange}
use Rattle.btree_range_map.specs.Bindings.{Binds, BindsTo, IsBound, IsBoundAfter}
use Rattle.btree_range_map.specs.Item.{Item}
use Rattle.btree_range_map.specs.Names.{range_inclusive}
use Rattle.btree_range_map.specs.Order.{KeyOrder}
use Rattle.btree_range_map.specs.Range.{Holds}
use Rattle.address_keys.specs.Families.{IsFamily}
use Rattle.address_prefixes.specs.declared.prefix.Prefix.{Prefix}
use Rattle.address_sets.proofs.Sets.{holds_is}
use Rattle.address_tables.specs.Lengths.{IsBoundOver, last_of, over, own}
use Rattle.address_tables.specs.Tables.{AreSame, IsTableOf, holds, route}
use Rattle.address_tables.specs.declared.entries.Entry.{Entry}
use Rattle.address_tables.proofs.Lengths.{below_all, below_next, below_none, of_append, over_assoc, value_below}

module _ {A V : Type 0} {order : KeyOrder A} {number : A → ℕ} {at : ℕ → A} {width : ℕ}
    (family : IsFamily order number at width) (same_value : V → V → Bool) where
  held : (p : Prefix A) (a : A) → order.is_key a → holds number p a ≡ true
      → Holds order (range_inclusive p.network p.last) a
  held p a key is =
      (holds_is family (range_inclusive p.network p.last) a key).1 (grind (arith, nat_tests))

  not_held : (p : Prefix A) (a : A) → order.is_key a → holds number p a ≡ false
      → ¬ Holds order (range_inclusive p.network p.last) a
  not_held p a key is has =
      let lies = (holds_is family (range_inclusive p.network p.last) a key).0 has in
      grind (arith, nat_tests)

  abbrev IsOver : ℕ → List (Entry A V) → List (Item (AnyRange A) V)
      → List (Item (AnyRange A) V) → Type 0
  IsOver length t before after = IsBoundOver order number same_value length t before after

  pub none_over : (length : ℕ) (items : List (Item (AnyRange A) V)) → IsOver length [] items items
  none_over length items = λ a key x binds. binds

  own_is : (length : ℕ) (e : Entry A V) (a : A) → e.prefix.length ≡ length
      → own number length e a ≡ (if holds number e.prefix a then Some e.value else None)
  own_is length e a is =
      let same : (e.prefix.length == length) ≡ true = grind (arith, nat_tests) in rw same refl

  over_next : (length : ℕ) (t : List (Entry A V)) (e : Entry A V) (a : A) (x : Option V)
      → over x (last_of number length (t ++ e ∷ []) a)
      ≡ over (over x (last_of number length t a)) (own number length e a)
  over_next length t e a x =
      ap (λ y. over x y) (of_append number length t (e ∷ []) a)
      ∙ sym (over_assoc x (last_of number length t a) (own number length e a))

  next_by : (w : V) (e : Entry A V) (a : A) (mid after : List (Item (AnyRange A) V)) → order.is_key a
      → IsBoundAfter order same_value mid after (range_inclusive e.prefix.network e.prefix.last) w
      → same_value w e.value ≡ true → (h : Bool) → holds number e.prefix a ≡ h → (y : Option V)
      → Binds order same_value mid a y
      → Binds order same_value after a (over y (if h then Some e.value else None))
  next_by w e a mid after key bound same true is y binds =
      (bound.held a key (held e.prefix a key is) (Some e.value)).1 same
  next_by w e a mid after key bound same false is y binds =
      (bound.others a key (not_held e.prefix a key is) y).1 binds

  -- an entry of this length binds its addresses
  pub next_over : (length : ℕ) (t : List (Entry A V)) (e : Entry A V) (w : V)
      (before mid after : List (Item (AnyRange A) V)) → e.prefix.length ≡ length
      → same_value w e.value ≡ true
      → IsBoundAfter order same_value mid after (range_inclusive e.prefix.network e.prefix.last) w
      → IsOver length t before mid → IsOver length (t ++ e ∷ []) before after
  next_over length t e w before mid after equal same bound is =
      λ a key x binds.
      rw (over_next length t e a x, own_is length e a equal)
      (next_by w e a mid after key bound same (holds number e.prefix a) refl
      (over x (last_of number length t a)) (is a key x binds))

  -- one entry after others
  pub more_over : (length : ℕ) (t : List (Entry A V)) (e : Entry A V)
      (before mid after : List (Item (AnyRange A) V)) → IsOver length t before mid
      → IsOver length (e ∷ []) mid after → IsOver length (t ++ e ∷ []) before after
  more_over length t e before mid after is next =
      λ a key x binds.
      rw (
        of_append number length t (e ∷ []) a,
        ← over_assoc x (last_of number length t a) (last_of number length (e ∷ []) a),
      )
      (next a key (over x (last_of number length t a)) (is a key x binds))

  -- the table binds the addresses of the prefixes shorter than that
  abbrev pub IsBoundBelow : ℕ → List (Entry A V) → List (Item (AnyRange A) V) → Type 0
  IsBoundBelow length t items = (a : A) → order.is_key a
      → Binds order same_value items a (value_below number length t a)

  pub none_below : (t : List (Entry A V)) → IsBoundBelow 0 t []
  none_below t = λ a key. rw (below_none number t a) (λ none. none)

  pub next_below : (length : ℕ) (t : List (Entry A V)) (before after : List (Item (AnyRange A) V))
      → IsBoundBelow length t before → IsOver length t before after
      → IsBoundBelow (length + 1) t after
  next_below length t before after below is =
      λ a key. rw (below_next number length t a)
      (is a key (value_below number length t a) (below a key))

  is_bound_to : (items : List (Item (AnyRange A) V)) (a : A) (v : V)
      → BindsTo order same_value items a v → IsBound order items a
  is_bound_to [] a v none = none
  is_bound_to (i ∷ items) a v (inl here) = inl here.0
  is_bound_to (i ∷ items) a v (inr later) = inr (is_bound_to items a v later)

  free_by : (items : List (Item (AnyRange A) V)) (a : A) (x : Option V)
      → Binds order same_value items a x → ¬ IsBound order items a → AreSame order same_value None x
  free_by items a None binds free = tt
  free_by items a (Some v) binds free = absurd (free (is_bound_to items a v binds))

  -- all of them make the table
  pub all_below : (length : ℕ) (t : List (Entry A V))
      → AllByRecursion (λ e. e.prefix.length < length) t → (items : List (Item (AnyRange A) V))
      → IsBoundBelow length t items → IsTableOf order number same_value None items t
  all_below length t all items below =
      λ a key.
      let is = below_all number length t all a in
      let binds : Binds order same_value items a (route number t a) =
      subst (λ x. Binds order same_value items a (option_map (λ e. e.value) x)) is (below a key) in
      record { bound = λ some. binds; free = free_by items a (route number t a) binds }
