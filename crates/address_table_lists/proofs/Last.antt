-- Addresses that have the value of the last binding.
use Rattle.std.proofs.Common.{◌≡◌, ℕ, Bool, true, false, ◌&&◌, if◌then◌else◌, nat_eq, nat_le, List, [], ◌∷◌, ◌++◌, Option, Some, None, refl, ap, sym, ◌∙◌, eq-eqb, arith}
use Rattle.std.proofs.lemmas.Bool.Decides.{nat_tests}
use Rattle.btree_range_map.specs.AnyRange.{AnyRange}
use Rattle.btree_range_map.specs.Bindings.{Binds, IsBoundAfter}
use Rattle.btree_range_map.specs.Item.{Item}
use Rattle.btree_range_map.specs.Names.{range_inclusive}
use Rattle.btree_range_map.specs.Order.{KeyOrder}
use Rattle.btree_range_map.specs.Range.{Holds}
use Rattle.address_keys.specs.Families.{IsFamily}
use Rattle.address_sets.proofs.Sets.{holds_is}
use Rattle.address_tables.specs.Lengths.{over}
use Rattle.address_tables.proofs.Lengths.{over_assoc}
use Rattle.address_table_lists.specs.Tables.{IsMadeLast, given, last_given}
use Rattle.address_table_lists.specs.declared.rows.Binding.{Binding}

over_none : (x : Option ℕ) → over None x ≡ x
over_none None = refl
over_none (Some v) = refl

module _ {A : Type 0} {order : KeyOrder A} {number : A → ℕ} {at : ℕ → A} {width : ℕ}
    (family : IsFamily order number at width) where
  abbrev says : Binding A → A → Bool
  says b a = nat_le (number b.first) (number a) && nat_le (number a) (number b.last)

  held : (b : Binding A) (a : A) → order.is_key a → says b a ≡ true
      → Holds order (range_inclusive b.first b.last) a
  held b a key is =
      (holds_is family (range_inclusive b.first b.last) a key).1 (grind (arith, nat_tests))

  not_held : (b : Binding A) (a : A) → order.is_key a → says b a ≡ false
      → ¬ Holds order (range_inclusive b.first b.last) a
  not_held b a key is has =
      let lies = (holds_is family (range_inclusive b.first b.last) a key).0 has in
      grind (arith, nat_tests)

  last_push : (bs : List (Binding A)) (b : Binding A) (a : A)
      → last_given number (bs ++ b ∷ []) a ≡ over (last_given number bs a) (given number b a)
  last_push [] b a = sym (over_none (given number b a))
  last_push (c ∷ bs) b a =
      ap (λ x. over (given number c a) x) (last_push bs b a)
      ∙ sym (over_assoc (given number c a) (last_given number bs a) (given number b a))

  next_by : (b : Binding A) (a : A) (before after : List (Item (AnyRange A) ℕ)) → order.is_key a
      → IsBoundAfter order nat_eq before after (range_inclusive b.first b.last) b.value
      → (h : Bool) → says b a ≡ h → (y : Option ℕ) → Binds order nat_eq before a y
      → Binds order nat_eq after a (over y (if h then Some b.value else None))
  next_by b a before after key bound true is y binds =
      (bound.held a key (held b a key is) (Some b.value)).1 (eq-eqb b.value b.value refl)
  next_by b a before after key bound false is y binds =
      (bound.others a key (not_held b a key is) y).1 binds

  -- one binding more
  pub next_last : (bs : List (Binding A)) (b : Binding A) (before after : List (Item (AnyRange A) ℕ))
      → IsBoundAfter order nat_eq before after (range_inclusive b.first b.last) b.value
      → IsMadeLast order number before bs → IsMadeLast order number after (bs ++ b ∷ [])
  next_last bs b before after bound is =
      λ a key. rw (last_push bs b a)
      (next_by b a before after key bound (says b a) refl (last_given number bs a) (is a key))

  pub none_last : IsMadeLast order number [] []
  none_last = λ a key none. none
