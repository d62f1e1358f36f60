-- What a range meets among the stored ones, and where it stands once it is put among them.
use Rattle.std.specs.Prelude.{◌≡◌, ◌≤◌, ◌⊎◌, ◌↔◌}
use Rattle.range_runs.specs.Common.{ℕ, List, length, insert, KeyOrder, Any, Holds, IsEmptyRange, IsKeyRange, AnyRange, Item, Touches, LiesBefore}
use Rattle.range_runs.specs.Bindings.{IsBound}

-- neither lies before the other
abbrev pub Overlap : {K : Type 0} → KeyOrder K → AnyRange K → AnyRange K → Type 0
Overlap order r s = (¬ LiesBefore order r s) × (¬ LiesBefore order s r)

module _ {K : Type 0} (order : KeyOrder K) where
  -- the ranges meet, or one starts where the other ends
  abbrev pub IsConnectedTo : AnyRange K → AnyRange K → Type 0
  IsConnectedTo r s = Overlap order r s ⊎ (Touches order r s ⊎ Touches order s r)

  module _ {V : Type 0} where
    -- some stored range meets the range
    abbrev pub MeetsSome : List (Item (AnyRange K) V) → AnyRange K → Type 0
    MeetsSome items r = Any (λ i. Overlap order i.key r) items

    -- a nonempty range meets one of the later list where it meets the given range or one of the
    -- earlier list, and nowhere else
    abbrev pub MeetAlso : List (Item (AnyRange K) V) → List (Item (AnyRange K) V) → AnyRange K
        → Type 0
    MeetAlso before after r = (s : AnyRange K) → IsKeyRange order s → (¬ IsEmptyRange order s)
        → MeetsSome after s ↔ (Overlap order r s ⊎ MeetsSome before s)

    -- some stored range meets or touches it
    abbrev pub IsConnectedToSome : List (Item (AnyRange K) V) → AnyRange K → Type 0
    IsConnectedToSome items r = Any (λ i. IsConnectedTo i.key r) items

    -- some key of the range is bound
    abbrev pub BindsKeyOf : List (Item (AnyRange K) V) → AnyRange K → Type 0
    BindsKeyOf items r = (k : K) × order.is_key k × Holds order r k × IsBound order items k

    -- each key of the range is bound
    abbrev pub BindsAllOf : List (Item (AnyRange K) V) → AnyRange K → Type 0
    BindsAllOf items r = (k : K) → order.is_key k → Holds order r k → IsBound order items k

-- the one list with an item put in somewhere is the other
abbrev pub IsPutInto : {T : Type 0} → List T → List T → T → Type 0
IsPutInto before after x = (index : ℕ) × (index ≤ length before) × (after ≡ insert before index x)
