-- What a copy of one of the two values of each key makes of two lists.
use Rattle.range_map.proofs.Common.{arith, common_steps, ◌≡◌, refl, subst, ◌↔◌, inl, inr, Bool, true, false, List, Option, Some, None, Result, Ok, IsEquivalence, Shared, FnReturnsAt, Bor, KeyOrder, IsLawful, ClonesAreEqual, AnyRange, Item, IsAsAnswered, IsBound, Binds, IsCombinedAt, AreCombined, IsSecondOrFirst, MayOverlay, first_where, IsCopyOfValue, IsOverlaid, IsRestricted, IsWithout, IsStored, binds_bound}
use Rattle.range_bulk.proofs.BoundKeys.{bound_or_not, bound_to_equal, binds_by}
use Rattle.range_map.proofs.Once.{bound_once}

-- the second value, or the first where there is none
abbrev second_or_first : {V : Type 0} → Option V → Option V → Option V
second_or_first first None = first
second_or_first first (Some w) = Some w

-- where f makes clones, an overlay is of clones
module _ {F V E : Type 0} (is_clone : V → V → Type 0)
    (calls : Shared F (Bor V × Unit {0}) (Result V E)) (f : F)
    (clones : (w v : V) → FnReturnsAt calls f w (Ok v) → is_clone w v) where
  chosen_copied : (left right copy : Option V) → IsSecondOrFirst is_clone calls f left right copy
      → IsCopyOfValue is_clone (second_or_first left right) copy
  chosen_copied left option copy h = grind (arith, common_steps)

  pub clones_overlaid : (left right copy : Option V)
      → MayOverlay is_clone calls f left right (Ok copy)
      → IsCopyOfValue is_clone (second_or_first left right) copy
  clones_overlaid left right copy may = chosen_copied left right copy (may.chosen copy refl)

pub chosen_may : {F V W E : Type 0} (is_clone : V → V → Type 0)
    (calls : Shared F (Bor W × Unit {0}) (Result V E)) (f : F) (left : Option V)
    (right : Option W) (answer : Option V)
    → IsSecondOrFirst is_clone calls f left right answer
    → MayOverlay is_clone calls f left right (Ok answer)
chosen_may is_clone calls f left right answer chosen = grind (arith, common_steps)

-- what the answers are is known less exactly
pub combined_weaker : {K V W X E : Type 0} (order : KeyOrder K) (same_left : V → V → Bool)
    (same_right : W → W → Bool) (same : X → X → Bool)
    (may less : Option V → Option W → Result (Option X) E → Type 0)
    (items : List (Item (AnyRange K) V)) (others : List (Item (AnyRange K) W))
    (new : List (Item (AnyRange K) X))
    → ((left : Option V) (right : Option W) (answer : Option X) → may left right (Ok answer)
    → less left right (Ok answer))
    → AreCombined order same_left same_right same may items others new
    → AreCombined order same_left same_right same less items others new
combined_weaker order same_left same_right same may less items others new weaker combined =
    grind (arith, common_steps)

module _ {K : Type 0} (order : KeyOrder K) where
  -- a key that is bound as a copy of what a list binds it to is bound as in the list
  module _ (lawful : IsLawful order) {V : Type 0} {same : V → V → Bool}
      (equal : IsEquivalence same) (is_clone : V → V → Type 0)
      (clones : ClonesAreEqual is_clone same) (items new : List (Item (AnyRange K) V))
      (stored : IsStored order same items) (k : K) (key : order.is_key k) where
    as_copied : (o copy b : Option V) → Binds order same items k o → IsCopyOfValue is_clone o copy
        → IsAsAnswered same copy b ↔ Binds order same items k b
    as_copied option other_option b h is =
        grind (arith, common_steps, binds_bound, bound_to_equal, equal.congr, bound_once)

    bound_as_copied : (o copy : Option V) → Binds order same items k o
        → IsCopyOfValue is_clone o copy
        → ((b : Option V) → Binds order same new k b ↔ IsAsAnswered same copy b) → (b : Option V)
        → Binds order same new k b ↔ Binds order same items k b
    bound_as_copied o copy h is answered b =
        let alike = as_copied o copy b h is in
        (λ to. alike.0 ((answered b).0 to), λ to. (answered b).1 (alike.1 to))

    -- a copy of none leaves a key free
    free_as_copied : (copy : Option V) → IsCopyOfValue is_clone None copy
        → ((b : Option V) → Binds order same new k b ↔ IsAsAnswered same copy b)
        → ¬ IsBound order new k
    free_as_copied None is answered = (answered None).1 refl
    free_as_copied (Some w) is answered = absurd (cc)

  module _ (lawful : IsLawful order) {V W E : Type 0} {same : V → V → Bool}
      (equal : IsEquivalence same) (same_other : W → W → Bool) (is_clone : V → V → Type 0)
      (clones : ClonesAreEqual is_clone same) (items : List (Item (AnyRange K) V))
      (others : List (Item (AnyRange K) W)) (new : List (Item (AnyRange K) V))
      (stored : IsStored order same items)
      (may : Option V → Option W → Result (Option V) E → Type 0)
      (combined : AreCombined order same same_other same may items others new) where
    -- what is copied where the other list binds the key, and where it does not
    module _ (kept : Option V → Option W → Option V)
        (told : (left : Option V) (right : Option W) (copy : Option V) → may left right (Ok copy)
        → IsCopyOfValue is_clone (kept left right) copy) where
      module _ (k : K) (key : order.is_key k)
          (at : IsCombinedAt order same same_other same may items others new k) where
        as_in_items : kept at.left at.right ≡ at.left → (b : Option V)
            → Binds order same new k b ↔ Binds order same items k b
        as_in_items is = grind (arith, common_steps, bound_as_copied)

        gone_at : kept at.left at.right ≡ None → ¬ IsBound order new k
        gone_at is = grind (arith, common_steps, free_as_copied)

      items_where_free : ((left : Option V) → kept left None ≡ left) → (k : K)
          → order.is_key k → ¬ IsBound order others k → (b : Option V)
          → Binds order same new k b ↔ Binds order same items k b
      items_where_free is k key free =
          elim (bound_or_not order lawful items k) [
            | inl bound ↦
                let at = combined.held k key (inl bound) in
                as_in_items k key at (grind (arith, common_steps, binds_bound, is at.left))
            | inr none ↦ grind (arith, common_steps, binds_by, binds_bound)
          ]

    -- the answers are copies of the first value where there is a second, or where there is none
    abbrev pub Keeps : Bool → Type 0
    Keeps bound = (left : Option V) (right : Option W) (copy : Option V) → may left right (Ok copy)
        → IsCopyOfValue is_clone (first_where bound left right) copy

    pub restricted : (bound : Bool) → bound ≡ true → Keeps bound
        → IsRestricted order same items others new
    restricted bound is keeps =
        let kept = first_where true in
        let told : Keeps true = subst Keeps is keeps in
        record {
          kept = λ k key bound.
              let at = combined.held k key (inr bound) in
              as_in_items kept told k key at (grind (arith, common_steps));
          gone = λ k key free.
              elim (bound_or_not order lawful items k) [
                | inl bound ↦
                    let at = combined.held k key (inl bound) in
                    gone_at kept told k key at (grind (arith, common_steps, binds_bound))
                | inr none ↦ combined.free k key none free
              ];
        }

    pub left_over : (bound : Bool) → bound ≡ false → Keeps bound
        → IsWithout order same items others new
    left_over bound is keeps =
        let kept = first_where false in
        let told : Keeps false = subst Keeps is keeps in
        record {
          gone = λ k key bound.
              let at = combined.held k key (inr bound) in
              gone_at kept told k key at (grind (arith, common_steps));
          kept = items_where_free kept told (λ left. refl);
        }

  module _ (lawful : IsLawful order) {V E : Type 0} {same : V → V → Bool}
      (equal : IsEquivalence same) (is_clone : V → V → Type 0)
      (clones : ClonesAreEqual is_clone same) (items others new : List (Item (AnyRange K) V))
      (stored : IsStored order same items) (stored_others : IsStored order same others)
      (may : Option V → Option V → Result (Option V) E → Type 0)
      (combined : AreCombined order same same same may items others new)
      (told : (left right copy : Option V) → may left right (Ok copy)
      → IsCopyOfValue is_clone (second_or_first left right) copy) where
    over_at : (k : K) → order.is_key k → (left right copy : Option V)
        → Binds order same others k right → IsCopyOfValue is_clone (second_or_first left right) copy
        → ((b : Option V) → Binds order same new k b ↔ IsAsAnswered same copy b)
        → IsBound order others k → (b : Option V)
        → Binds order same new k b ↔ Binds order same others k b
    over_at k key left option copy second is answered bound =
        grind (arith, common_steps, bound_as_copied)

    pub overlaid : IsOverlaid order same items others new
    overlaid =
        record {
          over = λ k key bound.
              let at = combined.held k key (inr bound) in
              over_at k key at.left at.right at.answer at.second
              (told at.left at.right at.answer at.given) at.is bound;
          under =
              items_where_free lawful equal same is_clone clones items others new stored may
              combined second_or_first told (λ left. refl);
        }

  pub overlaid_by_clones : (lawful : IsLawful order) {F V E : Type 0} (same : V → V → Bool)
      → IsEquivalence same → (is_clone : V → V → Type 0) → ClonesAreEqual is_clone same
      → (items others new : List (Item (AnyRange K) V)) → IsStored order same items
      → IsStored order same others → {calls : Shared F (Bor V × Unit {0}) (Result V E)} {f : F}
      → AreCombined order same same same (MayOverlay is_clone calls f) items others new
      → ((w v : V) → FnReturnsAt calls f w (Ok v) → is_clone w v)
      → IsOverlaid order same items others new
  overlaid_by_clones lawful same equal is_clone copies items others new stored stored_others
      {calls} {f} combined clones =
      overlaid lawful equal is_clone copies items others new stored stored_others
      (MayOverlay is_clone calls f) combined (clones_overlaid is_clone calls f clones)
