-- What a list of calls makes of the pairs of a multimap: the last unrefused call on a pair says
-- whether it is there.
use Rattle.std.specs.List.{AllByRecursion as Every}
use Rattle.std.specs.Prelude.{◌≡◌, Bool, IsTrue, List, [], ◌∷◌, ◌⊎◌, ◌↔◌, ⊤}
use Rattle.range_keys.specs.Order.{KeyOrder}
use Rattle.range_algebra.specs.Range.{Holds}
use Rattle.range_algebra.specs.declared.any.AnyRange.{AnyRange}
use Rattle.range_store.specs.declared.storage.Item.{Item}
use Rattle.range_multimaps.specs.Pairs.{HasPair, HasPairsAlso, HasPairsWithout}

-- an insertion or a removal with its range and its value, or a call that returned an error
pub data Call (K V : Type 0) : Type 0 where
  Inserted : AnyRange K → V → Call K V
  Removed : AnyRange K → V → Call K V
  Refused : Call K V

module _ {K V : Type 0} where
  abbrev pub IsInsertion : Call K V → Type 0
  IsInsertion (Inserted r v) = ⊤
  IsInsertion call = ⊥

module _ {K : Type 0} (order : KeyOrder K) {V : Type 0} (eq : V → V → Bool) (k : K) (w : V) where
  -- the call is on the key, with an equal value, and was not refused
  abbrev pub IsOn : Call K V → Type 0
  IsOn (Inserted r v) = Holds order r k × IsTrue (eq v w)
  IsOn (Removed r v) = Holds order r k × IsTrue (eq v w)
  IsOn Refused = ⊥

  -- none of the calls is on the pair
  abbrev pub HasNoneOn : List (Call K V) → Type 0
  HasNoneOn calls = Every (λ c. ¬ IsOn c) calls

  -- the last of the calls that are on the pair is an insertion
  abbrev pub WasInserted : List (Call K V) → Type 0
  WasInserted [] = ⊥
  WasInserted (call ∷ calls) = WasInserted calls ⊎ (IsInsertion call × IsOn call × HasNoneOn calls)

module _ {K : Type 0} (order : KeyOrder K) {S V : Type 0} (has : S → V → Bool)
    (eq : V → V → Bool) where
  -- what the contract of the call says of the lists before and after it
  abbrev pub IsCallBetween : List (Item (AnyRange K) S) → Call K V → List (Item (AnyRange K) S)
      → Type 0
  IsCallBetween items (Inserted r v) next = HasPairsAlso order has eq items next r v
  IsCallBetween items (Removed r v) next = HasPairsWithout order has eq items next r v
  IsCallBetween items Refused next = next ≡ items

  -- the calls, one after the other, with a list between any two
  abbrev pub AreCallsBetween : List (Item (AnyRange K) S) → List (Call K V)
      → List (Item (AnyRange K) S) → Type 0
  AreCallsBetween items [] last = last ≡ items
  AreCallsBetween items (call ∷ calls) last =
      (next : List (Item (AnyRange K) S)) × IsCallBetween items call next
      × AreCallsBetween next calls last

  -- each key has just the values of which the last call on the two is an insertion
  abbrev pub HasJustInserted : List (Call K V) → List (Item (AnyRange K) S) → Type 0
  HasJustInserted calls last = (k : K) → order.is_key k → (v : V) → HasPair order has last k v
      ↔ WasInserted order eq k v calls

  -- and, beside those, just the values that it had before, where no call is on the two
  abbrev pub HasInsertedOrKept : List (Item (AnyRange K) S) → List (Call K V)
      → List (Item (AnyRange K) S) → Type 0
  HasInsertedOrKept items calls last = (k : K) → order.is_key k → (v : V)
      → HasPair order has last k v
      ↔ (WasInserted order eq k v calls ⊎
      (HasPair order has items k v × HasNoneOn order eq k v calls))
