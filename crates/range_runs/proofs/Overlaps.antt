-- Which stored ranges a range meets, and which keys both then hold.
use Rattle.range_runs.proofs.Common.{common_steps, lower, PLe, PLt, common, common_known, earlier_is, later_is, ◌≡◌, ℕ, zero, suc, ◌+◌, ◌<◌, Bool, List, [], ◌∷◌, length, take, drop, get_or, refl, arith, true, false, inl, inr, not, IsTrue, ◌↔◌, Option, Every, option_copied, is_some, Bound, is_lt, KeyOrder, IsLawful, IsComplete, start_position, end_position, position_cmp, Position, not_both_greater_and_not, not_greater, AnyRange, Holds, IsKeyRange, IsEmptyRange, le_trans, lt_not_le, not_lt, Item, IsBound, BindsTo, Binds, IsStored, MeetsSome, BindsKeyOf, Overlap}
use Rattle.std.specs.Borrow.{Bor}
use Rattle.range_algebra.proofs.Commons.{common_holds}
use Rattle.range_algebra.proofs.Completeness.{nonempty_holds}
use Rattle.range_algebra.proofs.Holding.{holds_by_position}
use Rattle.range_runs.proofs.Found.{ends_upto, not_less, starts_here}
pub use Rattle.range_runs.proofs.Found.{any_at}

module _ {K : Type 0} (order : KeyOrder K) (lawful : IsLawful order) where
  abbrev End : AnyRange K → Position K
  End r = end_position order r.end

  -- over complete keys ranges that meet share a key
  shared_key : (r s : AnyRange K) → IsComplete order → IsKeyRange order r → IsKeyRange order s
      → (IsEmptyRange order r → ⊥) → (IsEmptyRange order s → ⊥) → Overlap order r s
      → (k : K) × order.is_key k × Holds order r k × Holds order s k
  shared_key r s complete known others full full_s meets =
      let cmp = position_cmp order.cmp in
      let ends =
      λ (b : Bound K) (h : PLe lawful (start_position order b) (End r))
      (k : PLe lawful (start_position order b) (End s)). earlier_is order lawful r.end s.end
      (λ e. PLe lawful (start_position order b) (end_position order e)) h k in
      let found = nonempty_holds order lawful complete (common order r s)
      (common_known order lawful r s known others) (later_is order lawful r.start s.start
      (λ b. PLe lawful (start_position order b) (End (common order r s)))
      (ends r.start (not_greater (cmp (lower order r) (End r)) full) (not_lt lawful _ _ meets.1))
      (ends s.start (not_lt lawful _ _ meets.0) (not_greater (cmp (lower order s) (End s)) full_s))) in
      let held = (common_holds order lawful r s found.0 found.1).0 found.2 in
      (found.0, found.1, held.0, held.1)

  module _ {V : Type 0} where
    bound_meets : (items : List (Item (AnyRange K) V)) (r : AnyRange K) (k : K) → order.is_key k
        → Holds order r k → IsBound order items k → MeetsSome order items r
    bound_meets [] r k key held h = h
    bound_meets (i ∷ rest) r k key held (inl h) = inl (grind (arith, common_steps, holds_by_position, lt_not_le, le_trans))
    bound_meets (i ∷ rest) r k key held (inr h) = inr (bound_meets rest r k key held h)

    -- a range of which a key is bound is nonempty and meets some item
    pub binding_meets : (items : List (Item (AnyRange K) V)) (r : AnyRange K)
        → BindsKeyOf order items r → (IsEmptyRange order r → ⊥) × MeetsSome order items r
    binding_meets items r (k, key, held, bound) = (
      λ e. grind (arith, common_steps, holds_by_position, not_both_greater_and_not, le_trans),
      bound_meets items r k key held bound,
    )

    meeting_by : (items : List (Item (AnyRange K) V)) (r : AnyRange K) → IsComplete order
        → Every (λ i. IsKeyRange order i.key) items
        → Every (λ i. IsEmptyRange order i.key → ⊥) items → IsKeyRange order r
        → (IsEmptyRange order r → ⊥) → MeetsSome order items r → BindsKeyOf order items r
    meeting_by [] r complete known full others full_r h = absurd h
    meeting_by (i ∷ rest) r complete known full others full_r (inl h) =
        let found = shared_key i.key r complete known.0 others full.0 full_r h in
        (found.0, found.1, found.3, inl found.2)
    meeting_by (i ∷ rest) r complete known full others full_r (inr h) = grind (arith, common_steps, meeting_by rest r complete known.1 full.1 others full_r h)

    -- over complete keys a nonempty range that meets some item has a bound key
    pub meeting_binds : (same : V → V → Bool) (items : List (Item (AnyRange K) V)) (r : AnyRange K)
        → IsComplete order → IsStored order same items → IsKeyRange order r
        → (IsEmptyRange order r → ⊥) → MeetsSome order items r → BindsKeyOf order items r
    meeting_binds same items r complete stored known full h = grind (arith, common_steps, meeting_by)

    -- up to the place all end before the range, and from there on all start past it
    pub apart_meets : (items : List (Item (AnyRange K) V)) (r : AnyRange K) (p e : Position K)
        (place : ℕ) → p ≡ lower order r → e ≡ End r → Every (λ i. PLt lawful (End i.key) p) (take place items)
        → Every (λ i. PLt lawful e (lower order i.key)) (drop place items) → MeetsSome order items r → ⊥
    apart_meets [] r p e place start end below above h = h
    apart_meets (i ∷ rest) r p e zero start end below above (inl h) = grind (arith, common_steps)
    apart_meets (i ∷ rest) r p e zero start end below above (inr h) = apart_meets rest r p e zero start end tt above.1 h
    apart_meets (i ∷ rest) r p e (suc place) start end below above (inl h) = grind (arith, common_steps)
    apart_meets (i ∷ rest) r p e (suc place) start end below above (inr h) = apart_meets rest r p e place start end below.1 above h

    -- the last that starts within a nonempty range or before it decides
    pub last_started_decides : (same : V → V → Bool) (items : List (Item (AnyRange K) V))
        (r : AnyRange K) (p e : Position K) (place : ℕ) (x : Item (AnyRange K) V) (before : Bool)
        → p ≡ lower order r → e ≡ End r → IsStored order same items → (IsEmptyRange order r → ⊥)
        → place < length items → x ≡ get_or items place x
        → Every (λ i. PLe lawful (lower order i.key) e) (take (place + 1) items)
        → Every (λ i. PLt lawful e (lower order i.key)) (drop (place + 1) items)
        → before ≡ is_lt (position_cmp order.cmp (End x.key) p) → IsTrue (not before)
        ↔ ((IsEmptyRange order r → ⊥) × MeetsSome order items r)
    last_started_decides same items r p e place x true start end stored full within read upto above
        ends = (
          λ h. absurd (cc),
          λ h. absurd (apart_meets items r p e (place + 1) start end
              (ends_upto order lawful same items p place x stored within read ends) above h.1),
        )
    last_started_decides same items r p e place x false start end stored full within read upto above
        ends =
        let cmp = position_cmp order.cmp in
        let starts = starts_here order lawful same items e place x within read upto in (
          λ h. (
            full,
            any_at (λ i. Overlap order i.key r) items place x within read (grind (arith, common_steps, not_less, lt_not_le)),
          ),
          λ h. refl,
        )

module _ {K : Type 0} (order : KeyOrder K) {V : Type 0} (same : V → V → Bool) where
  pub binds_bound : (items : List (Item (AnyRange K) V)) (k : K) (v : V)
      → BindsTo order same items k v → IsBound order items k
  binds_bound [] k v h = h
  binds_bound (i ∷ rest) k v (inl h) = inl h.0
  binds_bound (i ∷ rest) k v (inr h) = inr (binds_bound rest k v h)

  -- a key is bound where its binding is to some value
  pub holding_is : (items : List (Item (AnyRange K) V)) (k : K) (b : Option (Bor V))
      → Binds order same items k (option_copied b) → IsTrue (is_some b) ↔ IsBound order items k
  holding_is items k option h = grind (arith, common_steps, binds_bound)
