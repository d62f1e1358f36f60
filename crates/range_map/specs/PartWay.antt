-- How far a call came that goes over a list and failed at one of its elements.
use Rattle.std.specs.Prelude.{◌≡◌, ◌↔◌, Bool, Option, List, ◌∷◌, ◌++◌}
use Rattle.range_map.specs.Common.{KeyOrder, Any, Holds, AnyRange, Item, IsBound, Binds}
use Rattle.range_reads.specs.FreeRanges.{AreGaps}

-- P holds of what stands before some element of the list
abbrev pub BeforeOne : {A : Type 0} → List A → (List A → Type 0) → Type 0
BeforeOne {A} list P =
    (front : List A) × (next : A) × (rest : List A) × (front ++ next ∷ rest ≡ list) × P front

-- P holds of the gaps of the items before some gap
abbrev pub BeforeOneGap : {K V : Type 0} → KeyOrder K → List (Item (AnyRange K) V)
    → (List (AnyRange K) → Type 0) → Type 0
BeforeOneGap {K} {V} order items P =
    (gaps : List (AnyRange K)) × AreGaps order items gaps × BeforeOne gaps P

-- no key of the ranges is bound, and each other key as before
pub record AreUnboundAfter {K : Type 0} (order : KeyOrder K) {V : Type 0} (same : V → V → Bool)
    (before after : List (Item (AnyRange K) V)) (ranges : List (AnyRange K)) : Type 0 where
  pub gone : (k : K) → order.is_key k → Any (λ r. Holds order r k) ranges → ¬ IsBound order after k
  pub kept : (k : K) → order.is_key k → ¬ Any (λ r. Holds order r k) ranges → (b : Option V)
      → Binds order same after k b ↔ Binds order same before k b
