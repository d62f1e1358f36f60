-- The form of a stored list, item by item.
use Rattle.range_runs.proofs.Common.{arith, common_steps, Every, ◌↔◌, Bool, false, not, ◌||◌, if◌then◌else◌, IsTrue, List, [], ◌∷◌, is_gt, is_lt, is_eq, KeyOrder, IsLawful, start_position, end_position, position_cmp, lt_is_less, not_greater, IsKeyRange, IsEmptyRange, starts_at_end, is_before, le_lt_trans, AnyRange, Item, EachNext, LiesBefore, Touches, IsFollowedBy, IsStored}
use Rattle.range_algebra.specs.declared.ordering.RangeOrdering.TheVariants.{Before, Intersecting, After}

one_false_is_not_both : (t c : Bool) → IsTrue (not t || not c) ↔ (IsTrue t → IsTrue c → ⊥)
one_false_is_not_both test c = grind (arith, common_steps)

pub before_by_parts : (a b t x d u v w c : Bool) → IsTrue
    (is_before (if a then (if b then Before t else Intersecting false x)
    else (if d then After u else Intersecting v w)) c)
    ↔ (IsTrue a × IsTrue b × IsTrue (not t || not c))
before_by_parts a b t x d u v w c = grind (arith, common_steps)

module _ {K : Type 0} (order : KeyOrder K) (lawful : IsLawful order) {V : Type 0}
    (same : V → V → Bool) where
  -- known and nonempty, each before the next, and touching only where values differ
  abbrev pub IsListed : List (Item (AnyRange K) V) → Type 0
  IsListed [] = Unit {0}
  IsListed (i ∷ []) = IsKeyRange order i.key × (IsEmptyRange order i.key → ⊥)
  IsListed (i ∷ j ∷ rest) =
      IsKeyRange order i.key × (IsEmptyRange order i.key → ⊥) × LiesBefore order i.key j.key
      × (Touches order i.key j.key → IsTrue (same i.value j.value) → ⊥) × IsListed (j ∷ rest)

  followed_is_before_and_apart : (i j : Item (AnyRange K) V) → (IsEmptyRange order i.key → ⊥)
      → IsFollowedBy order same i j ↔ (LiesBefore order i.key j.key
      × (Touches order i.key j.key → IsTrue (same i.value j.value) → ⊥))
  followed_is_before_and_apart i j full =
      let cmp = position_cmp order.cmp in
      let start = start_position order i.key.start in
      let end = end_position order i.key.end in
      let other = start_position order j.key.start in
      let other_end = end_position order j.key.end in
      let touch = starts_at_end order i.key.end other in
      let parts = before_by_parts (is_lt (cmp start other)) (is_lt (cmp end other)) touch
      (is_eq (cmp end other_end)) (is_gt (cmp start other_end))
      (starts_at_end order j.key.end start) (is_eq (cmp start other)) (is_eq (cmp end other_end))
      (same i.value j.value) in
      let test = one_false_is_not_both touch (same i.value j.value) in (
        λ h. let p = parts.0 h in ((lt_is_less (cmp end other)).0 p.1, test.0 p.2),
        λ h. parts.1 (
          (lt_is_less (cmp start other)).1 (le_lt_trans lawful _ _ _
              (not_greater (cmp start end) full) h.0),
          (lt_is_less (cmp end other)).1 h.0,
          test.1 h.1,
        ),
      )

  by_parts : (items : List (Item (AnyRange K) V)) → Every (λ i. IsKeyRange order i.key) items
      → Every (λ i. IsEmptyRange order i.key → ⊥) items
      → EachNext (IsFollowedBy order same) items → IsListed items
  by_parts [] known full rising = tt
  by_parts (i ∷ []) known full rising = (known.0, full.0)
  by_parts (i ∷ j ∷ rest) known full rising = grind (arith, common_steps, by_parts (j ∷ rest) known.1 full.1 rising.1, followed_is_before_and_apart)

  pub stored_list_is_listed : (items : List (Item (AnyRange K) V)) → IsStored order same items
      → IsListed items
  stored_list_is_listed items h = by_parts items h.known h.nonempty h.rising

  pub stored_by : (items : List (Item (AnyRange K) V)) → IsListed items → IsStored order same items
  stored_by [] h = record { known = tt; nonempty = tt; rising = tt }
  stored_by (i ∷ []) h = record { known = (h.0, tt); nonempty = (h.1, tt); rising = (tt, tt) }
  stored_by (i ∷ j ∷ rest) h =
      let was = stored_by (j ∷ rest) h.4 in
      let next = (followed_is_before_and_apart i j h.1).1 (h.2, h.3) in
      record {
        known = (h.0, was.known);
        nonempty = (h.1, was.nonempty);
        rising = (next, was.rising);
      }
