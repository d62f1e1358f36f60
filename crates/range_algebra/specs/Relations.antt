-- How two ranges lie to one another: by the keys that they hold, and by the positions of their
-- bounds.
use Rattle.std.specs.Prelude.{◌≡◌, false, Bool, IsTrue, ◌⊎◌, ◌↔◌}
use Rattle.std.specs.declared.cmp.Ordering.TheVariants.{Less}
use Rattle.range_keys.specs.Order.{KeyOrder, Below}
use Rattle.range_keys.specs.Position.{start_position, end_position, position_cmp}
use Rattle.range_algebra.specs.declared.any.AnyRange.{AnyRange}
use Rattle.range_algebra.specs.Range.{StartHolds, EndHolds, Holds, IsEmptyRange, IsKeyRange}
use Rattle.range_algebra.specs.Compared.{range_ordering, matches, starts_at_end}

module _ {K : Type 0} (order : KeyOrder K) where
  -- every key of the one is less than every key of the other
  abbrev pub AreBelow : AnyRange K → AnyRange K → Type 0
  AreBelow r s = (a b : K) → order.is_key a → order.is_key b → Holds order r a → Holds order s b
      → Below order a b

  -- the key lies above every key of the one and below every key of the other
  abbrev pub LiesBetween : AnyRange K → AnyRange K → K → Type 0
  LiesBetween r s k =
      ((a : K) → order.is_key a → Holds order r a → Below order a k)
      × ((b : K) → order.is_key b → Holds order s b → Below order k b)

  -- the one is below the other, with no key between
  abbrev pub AreJoined : AnyRange K → AnyRange K → Type 0
  AreJoined r s = AreBelow r s × ((k : K) → order.is_key k → ¬ LiesBetween r s k)

  -- the one ends before the other starts
  abbrev pub LiesBefore : AnyRange K → AnyRange K → Type 0
  LiesBefore r s =
      position_cmp order.cmp (end_position order r.end) (start_position order s.start) ≡ Less

  -- the other starts where the one ends
  abbrev pub Touches : AnyRange K → AnyRange K → Type 0
  Touches r s = IsTrue (starts_at_end order r.end (start_position order s.start))

  -- their comparison says that they intersect
  abbrev pub Meets : AnyRange K → AnyRange K → Type 0
  Meets r s = IsTrue (matches (range_ordering order r s) false)

  abbrev pub EitherHolds : AnyRange K → AnyRange K → K → Type 0
  EitherHolds r s k = Holds order r k ⊎ Holds order s k

  -- of two nonempty ranges the flag says whether R is true of them
  abbrev pub TellsOfNonempty : Bool → (AnyRange K → AnyRange K → Type 0) → AnyRange K → AnyRange K
      → Type 0
  TellsOfNonempty flag R r s = ¬ IsEmptyRange order r → ¬ IsEmptyRange order s → IsTrue flag ↔ R r s

  -- R is true of every two nonempty ranges over keys
  abbrev pub OfAnyNonempty : (AnyRange K → AnyRange K → Type 0) → Type 0
  OfAnyNonempty R = (r s : AnyRange K) → IsKeyRange order r → IsKeyRange order s
      → ¬ IsEmptyRange order r → ¬ IsEmptyRange order s → R r s

  -- the third range holds just the keys that both others hold
  abbrev pub HoldsShared : AnyRange K → AnyRange K → AnyRange K → Type 0
  HoldsShared r s t = (k : K) → order.is_key k → Holds order t k
      ↔ (Holds order r k × Holds order s k)

  -- the third range holds just the keys that some start and some end of the others hold
  abbrev pub HoldsHull : AnyRange K → AnyRange K → AnyRange K → Type 0
  HoldsHull r s t = (k : K) → order.is_key k → Holds order t k
      ↔ ((StartHolds order r.start k ⊎ StartHolds order s.start k)
      × (EndHolds order r.end k ⊎ EndHolds order s.end k))

  -- some key is in both
  abbrev pub ShareKey : AnyRange K → AnyRange K → Type 0
  ShareKey r s = (k : K) × order.is_key k × Holds order r k × Holds order s k

  -- together the two leave out no key between their keys
  abbrev pub AreConnected : AnyRange K → AnyRange K → Type 0
  AreConnected r s = (a b k : K) → order.is_key a → order.is_key b → order.is_key k
      → EitherHolds r s a → EitherHolds r s b → Below order a k → Below order k b
      → EitherHolds r s k
