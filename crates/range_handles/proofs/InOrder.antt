-- Ranges in order are bound at once as one after the other.
use Rattle.std.proofs.Common.{◌≡◌, inl, inr, ℕ, ◌++◌, ◌↔◌, List, [], ◌∷◌, nat_eq, IsTrue, Option, Some, None}
use Rattle.std.proofs.lemmas.Cmp.{nat_eq_equiv}
use Rattle.btree_range_map.specs.Order.{KeyOrder}
use Rattle.btree_range_map.specs.Range.{Holds}
use Rattle.btree_range_map.specs.AnyRange.{AnyRange}
use Rattle.btree_range_map.specs.Item.{Item}
use Rattle.btree_range_map.specs.Bindings.{Binds, BindsTo, BindAlike, IsBound, IsSomeOf}
use Rattle.btree_range_map.specs.MapExtending.{AreBoundAfter}

module _ {K : Type 0} (order : KeyOrder K) where
  binds_among : (front rest : List (Item (AnyRange K) ℕ)) (i : Item (AnyRange K) ℕ) (k : K)
      → Holds order i.key k → (v : ℕ) → IsTrue (nat_eq i.value v)
      → BindsTo order nat_eq (front ++ i ∷ rest) k v
  binds_among [] rest i k held v equal = inl (held, equal)
  binds_among (j ∷ front) rest i k held v equal =
      inr (binds_among front rest i k held v equal)

  bound_by : (items : List (Item (AnyRange K) ℕ)) (k : K) (v : ℕ) → BindsTo order nat_eq items k v
      → IsBound order items k
  bound_by [] k v binds = binds
  bound_by (i ∷ rest) k v (inl here) = inl here.0
  bound_by (i ∷ rest) k v (inr later) = inr (bound_by rest k v later)

  -- a list that binds a key once, as items do that are bound to nothing before
  module _ (new items : List (Item (AnyRange K) ℕ))
      (once : (k : K) → order.is_key k → (v w : ℕ) → BindsTo order nat_eq new k v
      → BindsTo order nat_eq new k w → IsTrue (nat_eq v w))
      (alike : BindAlike order nat_eq new items) where
    held_by : (front rest : List (Item (AnyRange K) ℕ)) (i : Item (AnyRange K) ℕ)
        → items ≡ front ++ i ∷ rest → (k : K) → order.is_key k → Holds order i.key k
        → (b : Option ℕ) → Binds order nat_eq new k b ↔ IsSomeOf order nat_eq i.value b
    held_by front rest i parted k key held b = held_as b
      where
        binds : (v : ℕ) → IsTrue (nat_eq i.value v) → BindsTo order nat_eq new k v
        binds v equal =
            (alike k key (Some v)).1 (rw parted (binds_among front rest i k held v equal))

        held_as : (b : Option ℕ) → Binds order nat_eq new k b ↔ IsSomeOf order nat_eq i.value b
        held_as None = (
          λ free. free (bound_by new k i.value (binds i.value (nat_eq_equiv.refl i.value))),
          λ none. absurd none,
        )
        held_as (Some v) = (λ bound. once k key i.value v (binds i.value (nat_eq_equiv.refl i.value)) bound, binds v)

    unheld : (k : K) → order.is_key k → ¬ IsBound order items k → (b : Option ℕ)
        → Binds order nat_eq new k b ↔ Binds order nat_eq [] k b
    unheld k key free None = (λ _ none. none, λ _. (alike k key None).1 free)
    unheld k key free (Some v) = (
      λ bound. absurd (free (bound_by items k v ((alike k key (Some v)).0 bound))),
      λ none. absurd none,
    )

    pub bound_at_once : AreBoundAfter order nat_eq [] new items
    bound_at_once = record {
      held = λ front rest i parted k key held last b. held_by front rest i parted k key held b;
      others = unheld;
    }
