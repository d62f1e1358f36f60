-- What a list becomes where a closure answers a new value to each of its values.
use Rattle.std.specs.Prelude.{◌≡◌, ◌↔◌, ◌++◌, ◌∷◌, Bool, List, Option, Result, Ok}
use Rattle.range_map.specs.Common.{Shared, FnReturnsAt, AllZip, Bor, KeyOrder, Any, Every, HoldSame, AnyRange, Item, BindAlike, Binds, IsBound, IsSomeOf, IsStoredFor}

-- f may be called where it is shown the value of any of the items
abbrev pub MayBeAskedOfValues : {K F V A : Type 0} → Shared F (Bor V × Unit {0}) A → F
    → List (Item (AnyRange K) V) → Type 0
MayBeAskedOfValues {K} {F} {V} calls f items = (shown : Bor V)
    → Any (λ i. i.value ≡ shown.now) items
    → calls.pre f (shown, tt)

-- f may answer so to the value of an item, and without an error to that of each item before it
pub record AnswersItem {K F V W E : Type 0} (calls : Shared F (Bor V × Unit {0}) (Result W E))
    (f : F) (items : List (Item (AnyRange K) V)) (answer : Result W E) : Type 0 where
  pub front : List (Item (AnyRange K) V)
  pub item : Item (AnyRange K) V
  pub rest : List (Item (AnyRange K) V)
  pub all : items ≡ front ++ item ∷ rest
  pub given : Every (λ i. (earlier : W) × FnReturnsAt calls f i.value (Ok earlier)) front
  pub says : FnReturnsAt calls f item.value answer

-- f may answer without an error to the value of an item, and to that of each item before it
abbrev pub AreFirstAnswered : {K F V W E : Type 0} → Shared F (Bor V × Unit {0}) (Result W E) → F
    → List (Item (AnyRange K) V) → Type 0
AreFirstAnswered {W = W} calls f items = (answer : W) × AnswersItem calls f items (Ok answer)

module _ {K : Type 0} (order : KeyOrder K) {F V W E : Type 0}
    (calls : Shared F (Bor V × Unit {0}) (Result W E)) (f : F) where
  -- item by item the same keys, and an answer that f may give to the value
  abbrev pub AreAnswered : List (Item (AnyRange K) V) → List (Item (AnyRange K) W) → Type 0
  AreAnswered =
      AllZip (λ i a. HoldSame order i.key a.key × FnReturnsAt calls f i.value (Ok a.value))

  module _ (same : W → W → Bool) (items : List (Item (AnyRange K) V))
      (new : List (Item (AnyRange K) W)) where
    -- one answer for each item, and each key is bound to the answer for the item that holds it
    pub record IsAnsweredEach : Type 0 where
      pub answers : List (Item (AnyRange K) W)
      pub given : AreAnswered items answers
      pub bound : BindAlike order same new answers

    -- the key was bound to a value, and is bound to an answer that f may give to it
    pub record IsMappedAt (k : K) : Type 0 where
      pub value : V
      pub answer : W
      pub was : IsStoredFor order items k value
      pub given : FnReturnsAt calls f value (Ok answer)
      pub is : (b : Option W) → Binds order same new k b ↔ IsSomeOf order same answer b

    -- each bound key is bound to an answer to its value, and no other key is bound
    pub record AreMapped : Type 0 where
      pub held : (k : K) → order.is_key k → IsBound order items k → IsMappedAt k
      pub free : (k : K) → order.is_key k → ¬ IsBound order items k → ¬ IsBound order new k
