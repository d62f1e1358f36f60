-- How the ranges of two lists lie to one another.
use Rattle.std.specs.Prelude.{List}
use Rattle.range_map.specs.Common.{KeyOrder, Any, Every, AnyRange, Item, IsBound, MeetsSome, LiesIn}

module _ {K : Type 0} (order : KeyOrder K) {V W : Type 0} where
  -- no range of the one list meets one of the other
  abbrev pub MeetNowhere : List (Item (AnyRange K) V) → List (Item (AnyRange K) W) → Type 0
  MeetNowhere items others = Every (λ i. ¬ MeetsSome order others i.key) items

  -- each range of the one list lies in one of the other
  abbrev pub LieInside : List (Item (AnyRange K) V) → List (Item (AnyRange K) W) → Type 0
  LieInside items others = Every (λ i. Any (λ j. LiesIn order i.key j.key) others) items

  -- no key is bound by both
  abbrev pub ShareNoKey : List (Item (AnyRange K) V) → List (Item (AnyRange K) W) → Type 0
  ShareNoKey items others = (k : K) → order.is_key k → IsBound order items k
      → ¬ IsBound order others k

  -- each key that the one binds is bound by the other
  abbrev pub BindKeysOf : List (Item (AnyRange K) V) → List (Item (AnyRange K) W) → Type 0
  BindKeysOf items others = (k : K) → order.is_key k → IsBound order items k
      → IsBound order others k
