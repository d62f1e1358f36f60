-- What two lists make together where each key is bound as one of them binds it, or not at all.
use Rattle.std.specs.Prelude.{◌≡◌, ◌↔◌, Bool, true, false, List, Option, Some, None, Result, Ok}
use Rattle.range_map.specs.Common.{Shared, FnReturnsAt, Bor, KeyOrder, AnyRange, Item, IsBound, Binds}

-- the first value where there is a second, or where there is none
abbrev pub first_where : {V W : Type 0} → Bool → Option V → Option W → Option V
first_where true first None = None
first_where true first (Some w) = first
first_where false first None = first
first_where false first (Some w) = None

-- the one is a clone of the other, or both are none
abbrev pub IsCopyOfValue : {V : Type 0} → (V → V → Type 0) → Option V → Option V → Type 0
IsCopyOfValue is_clone None copy = copy ≡ None
IsCopyOfValue is_clone (Some v) None = ⊥
IsCopyOfValue is_clone (Some v) (Some w) = is_clone v w

-- the answer is what f may make of the second value, or where there is none a clone of the first
abbrev pub IsSecondOrFirst : {F V W E : Type 0} → (V → V → Type 0)
    → Shared F (Bor W × Unit {0}) (Result V E) → F → Option V → Option W → Option V → Type 0
IsSecondOrFirst is_clone calls f first None answer = IsCopyOfValue is_clone first answer
IsSecondOrFirst is_clone calls f first (Some w) None = ⊥
IsSecondOrFirst is_clone calls f first (Some w) (Some v) = FnReturnsAt calls f w (Ok v)

-- the same of what is answered, unless that is an error
pub record MayOverlay {F V W E : Type 0} (is_clone : V → V → Type 0)
    (calls : Shared F (Bor W × Unit {0}) (Result V E)) (f : F) (first : Option V)
    (second : Option W) (result : Result (Option V) E) : Type 0 where
  pub chosen : (answer : Option V) → result ≡ Ok answer
      → IsSecondOrFirst is_clone calls f first second answer

module _ {K : Type 0} (order : KeyOrder K) {V : Type 0} (same : V → V → Bool)
    (items : List (Item (AnyRange K) V)) where
  -- each key that the other list binds is bound as there, and each other key as in the items
  pub record IsOverlaid (others new : List (Item (AnyRange K) V)) : Type 0 where
    pub over : (k : K) → order.is_key k → IsBound order others k → (b : Option V)
        → Binds order same new k b ↔ Binds order same others k b
    pub under : (k : K) → order.is_key k → ¬ IsBound order others k → (b : Option V)
        → Binds order same new k b ↔ Binds order same items k b

  -- each key that the other list binds is bound as in the items, and no other key is bound
  pub record IsRestricted {W : Type 0} (others : List (Item (AnyRange K) W))
      (new : List (Item (AnyRange K) V)) : Type 0 where
    pub kept : (k : K) → order.is_key k → IsBound order others k → (b : Option V)
        → Binds order same new k b ↔ Binds order same items k b
    pub gone : (k : K) → order.is_key k → ¬ IsBound order others k → ¬ IsBound order new k

  -- no key that the other list binds is bound, and each other key as in the items
  pub record IsWithout {W : Type 0} (others : List (Item (AnyRange K) W))
      (new : List (Item (AnyRange K) V)) : Type 0 where
    pub gone : (k : K) → order.is_key k → IsBound order others k → ¬ IsBound order new k
    pub kept : (k : K) → order.is_key k → ¬ IsBound order others k → (b : Option V)
        → Binds order same new k b ↔ Binds order same items k b
