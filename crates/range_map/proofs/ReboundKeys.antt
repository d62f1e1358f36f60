-- What the keys of a piece are bound to, and what they come to be bound to by an answer to it.
use Rattle.range_map.proofs.Common.{arith, common_steps, ◌≡◌, Bool, List, [], ◌∷◌, map, Option, ◌↔◌, Result, Ok, Bor, Shared, IsEquivalence, KeyOrder, IsLawful, Any, Every, every_weaker, Holds, AnyRange, Item, Answered, IsAsAnswered, MayAnswer, IsUpdated, piece_of, Binds, BindsTo, IsPiece, IsCommonPart, IsRebound, AreRebound}
use Rattle.range_map.proofs.BindingAll.{common_lies_in}
use Rattle.range_bulk.proofs.BoundKeys.{none_holds, shared_key_is_overlap}
use Rattle.range_merge.proofs.HeldInside.{lies_in_holds}

module _ {K : Type 0} {order : KeyOrder K} (lawful : IsLawful order) (k : K)
    (key : order.is_key k) where
  module _ {V : Type 0} {same : V → V → Bool} (equal : IsEquivalence same) where
    some_bound : (items : List (Item (AnyRange K) V)) (r part : AnyRange K) (v : V)
        → Any (λ i. IsCommonPart order r i.key part × (i.value ≡ v)) items → Holds order part k
        → BindsTo order same items k v
    some_bound [] r part v h held = h
    some_bound (i ∷ items) r part v either held =
        grind (arith, lies_in_holds, common_lies_in, equal.refl, some_bound items r part v)

    -- a piece tells what its keys are bound to
    piece_binds : (items : List (Item (AnyRange K) V)) (r part : AnyRange K) (value : Option V)
        → IsPiece order items r part value → Holds order part k → Binds order same items k value
    piece_binds items r part option piece held =
        grind (arith, common_steps, none_holds, every_weaker, shared_key_is_overlap, some_bound)

    -- a held key is bound as the answer to its piece says
    rebound_at : {E : Type 0} (may : Option V → Result (Option V) E → Type 0)
        (items next : List (Item (AnyRange K) V)) (r : AnyRange K) (answers : List (Answered K V))
        → Every (λ p. IsPiece order items r p.key p.value) (map piece_of answers)
        → Every (λ a. may a.value (Ok a.answer)) answers → Any (λ a. Holds order a.key k
        × ((b : Option V) → Binds order same next k b ↔ IsAsAnswered same a.answer b)) answers
        → IsRebound order same may items next k
    rebound_at may items next r [] pieces given held = absurd held
    rebound_at may items next r (a ∷ answers) pieces given either =
        grind (arith, piece_binds, rebound_at may items next r answers pieces.1 given.1)

module _ {K : Type 0} {order : KeyOrder K} (lawful : IsLawful order) {V : Type 0}
    {same : V → V → Bool} (equal : IsEquivalence same) {F E : Type 0}
    (calls : Shared F (Option (Bor V) × Unit {0}) (Result (Option V) E)) (f : F) where
  -- what is answered piece by piece is answered key by key
  pub update_rebinds : (items next : List (Item (AnyRange K) V)) (r : AnyRange K)
      → IsUpdated order same calls f items next r
      → AreRebound order same (MayAnswer calls f) items next r
  update_rebinds items next r done = record {
    held =
        λ k key held. rebound_at lawful k key equal
        (MayAnswer calls f) items next r done.answered.answers done.answered.pieces.each
        done.answered.given (done.answered.held k key held);
    others = done.answered.others;
  }
