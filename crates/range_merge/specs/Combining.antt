-- What two lists make together, where a closure answers to what binds a key in either.
use Rattle.std.specs.List.{AllByRecursion as Every}
use Rattle.std.specs.Prelude.{◌≡◌, ◌↔◌, ◌⊎◌, Bool, List, Option, Some, None, Result, Ok, Err}
use Rattle.std.specs.Fn.{Shared}
use Rattle.std.specs.Option.{option_copied}
use Rattle.std.specs.Borrow.{Bor}
use Rattle.std.specs.declared.cmp.Ordering.TheVariants.{Equal}
use Rattle.range_keys.specs.Order.{KeyOrder}
use Rattle.range_algebra.specs.Intervals.{Any}
use Rattle.range_algebra.specs.Range.{Holds, IsEmptyRange, IsKeyRange}
use Rattle.range_algebra.specs.RangeOrder.{range_cmp}
use Rattle.range_algebra.specs.Relations.{LiesBefore}
use Rattle.range_algebra.specs.declared.any.AnyRange.{AnyRange}
use Rattle.range_store.specs.declared.storage.Item.{Item}
use Rattle.range_runs.specs.Answers.{IsAsAnswered}
use Rattle.range_runs.specs.Bindings.{IsBound, Binds}
use Rattle.range_runs.specs.Lookups.{MeetsSome}
use Rattle.range_runs.specs.Neighbours.{EachNext}
use Rattle.range_runs.specs.Pieces.{LiesIn}

-- the closure f may answer a where it is shown the two values, or none in place of either
pub record MayAnswerBoth {F V W A : Type 0}
    (calls : Shared F (Option (Bor V) × (Option (Bor W) × Unit {0})) A) (f : F) (left : Option V)
    (right : Option W) (a : A) : Type 0 where
  pub shown : Option (Bor V)
  pub other_shown : Option (Bor W)
  pub shows : option_copied shown ≡ left
  pub other_shows : option_copied other_shown ≡ right
  pub says : calls.post f (shown, (other_shown, tt)) a

-- f may give some answer where it is shown the two values, and the answer is such
abbrev pub IsAnsweredByBoth : {F V W X E : Type 0}
    → Shared F (Option (Bor V) × (Option (Bor W) × Unit {0})) (Result (Option X) E) → F → Option V
    → Option W → (Option X → Type 0) → Type 0
IsAnsweredByBoth {F} {V} {W} {X} calls f left right P =
    (answer : Option X) × MayAnswerBoth calls f left right (Ok answer) × P answer

-- f may be called where it is shown the two values, or none in place of either
abbrev pub MayBeAskedBoth : {F V W A : Type 0}
    → Shared F (Option (Bor V) × (Option (Bor W) × Unit {0})) A → F → Option V → Option W → Type 0
MayBeAskedBoth {F} {V} {W} calls f left right = (shown : Option (Bor V))
    → (other_shown : Option (Bor W)) → option_copied shown ≡ left
    → option_copied other_shown ≡ right → calls.pre f (shown, (other_shown, tt))

-- none, or the value of an item of the list
abbrev pub IsValueOf : {K V : Type 0} → List (Item (AnyRange K) V) → Option V → Type 0
IsValueOf items None = Unit {0}
IsValueOf items (Some v) = Any (λ i. i.value ≡ v) items

-- the values of an item of either list, or of both, with none in place of the one that is missing
pub record AreValuesOf {K V W : Type 0} (items : List (Item (AnyRange K) V))
    (others : List (Item (AnyRange K) W)) (left : Option V) (right : Option W) : Type 0 where
  pub first : IsValueOf items left
  pub second : IsValueOf others right
  pub some : left ≡ None → right ≡ None → ⊥

-- f may be called where it is shown the value of an item of either list, or of both
abbrev pub MayBeAskedOfBoth : {K F V W A : Type 0}
    → Shared F (Option (Bor V) × (Option (Bor W) × Unit {0})) A → F → List (Item (AnyRange K) V)
    → List (Item (AnyRange K) W) → Type 0
MayBeAskedOfBoth {K} {F} {V} {W} calls f items others = (shown : Option (Bor V))
    → (other_shown : Option (Bor W))
    → AreValuesOf items others (option_copied shown) (option_copied other_shown)
    → calls.pre f (shown, (other_shown, tt))

-- a range, what binds its keys in either list, if anything does, and the answer to that
pub record Combined (K V W X : Type 0) : Type 0 where
  pub key : AnyRange K
  pub left : Option V
  pub right : Option W
  pub answer : Option X

module _ {K : Type 0} (order : KeyOrder K) where
  -- the range lies in one with the value, or meets none
  abbrev pub IsConstantOn : {V : Type 0} → List (Item (AnyRange K) V) → AnyRange K → Option V
      → Type 0
  IsConstantOn items part (Some v) = Any (λ i. LiesIn order part i.key × (i.value ≡ v)) items
  IsConstantOn items part None = ¬ MeetsSome order items part

  module _ {V W : Type 0} where
    -- a nonempty range on which both lists are constant, and which one of them binds
    pub record IsSharedPart (items : List (Item (AnyRange K) V))
        (others : List (Item (AnyRange K) W)) (part : AnyRange K) (left : Option V)
        (right : Option W) : Type 0 where
      pub known : IsKeyRange order part
      pub nonempty : ¬ IsEmptyRange order part
      pub first : IsConstantOn items part left
      pub second : IsConstantOn others part right
      pub bound : left ≡ None → right ≡ None → ⊥

    -- such a range that is as wide as it goes
    pub record IsSharedPiece (items : List (Item (AnyRange K) V))
        (others : List (Item (AnyRange K) W)) (piece : AnyRange K) (left : Option V)
        (right : Option W) : Type 0 where
      pub part : IsSharedPart items others piece left right
      pub widest : (other : AnyRange K) → IsSharedPart items others other left right
          → LiesIn order piece other → LiesIn order other piece

    module _ {X : Type 0} (same_left : V → V → Bool) (same_right : W → W → Bool)
        (same : X → X → Bool) {E : Type 0}
        (may : Option V → Option W → Result (Option X) E → Type 0) where
      -- the closure may give an answer to what the key is bound to in the two lists, and in the new
      -- one it is bound as that says
      pub record IsCombinedAt (items : List (Item (AnyRange K) V))
          (others : List (Item (AnyRange K) W)) (new : List (Item (AnyRange K) X))
          (k : K) : Type 0 where
        pub left : Option V
        pub right : Option W
        pub answer : Option X
        pub first : Binds order same_left items k left
        pub second : Binds order same_right others k right
        pub given : may left right (Ok answer)
        pub is : (b : Option X) → Binds order same new k b ↔ IsAsAnswered same answer b

      -- each key that one of the lists binds is bound as an answer says, and no other key is bound
      pub record AreCombined (items : List (Item (AnyRange K) V))
          (others : List (Item (AnyRange K) W)) (new : List (Item (AnyRange K) X)) : Type 0 where
        pub held : (k : K) → order.is_key k → IsBound order items k ⊎ IsBound order others k
            → IsCombinedAt items others new k
        pub free : (k : K) → order.is_key k → ¬ IsBound order items k → ¬ IsBound order others k
            → ¬ IsBound order new k

      -- one answer for each piece on which both lists are constant, each before the next, and each
      -- key that a list binds is bound as the answer to its piece says
      pub record IsCombination (items : List (Item (AnyRange K) V))
          (others : List (Item (AnyRange K) W)) (new : List (Item (AnyRange K) X)) : Type 0 where
        pub answers : List (Combined K V W X)
        pub each : Every (λ c. IsSharedPiece items others c.key c.left c.right) answers
        pub rising : EachNext (λ c d. LiesBefore order c.key d.key) answers
        pub all : (piece : AnyRange K) (left : Option V) (right : Option W)
            → IsSharedPiece items others piece left right
            → Any (λ c. (range_cmp order c.key piece ≡ Equal) × (c.left ≡ left)
            × (c.right ≡ right)) answers
        pub given : Every (λ c. may c.left c.right (Ok c.answer)) answers
        pub held : (k : K) → order.is_key k → IsBound order items k ⊎ IsBound order others k
            → Any (λ c. Holds order c.key k
            × ((b : Option X) → Binds order same new k b ↔ IsAsAnswered same c.answer b)) answers
        pub free : (k : K) → order.is_key k → ¬ IsBound order items k → ¬ IsBound order others k
            → ¬ IsBound order new k

    module _ {X E : Type 0} (may : Option V → Option W → Result (Option X) E → Type 0)
        (items : List (Item (AnyRange K) V)) (others : List (Item (AnyRange K) W)) where
      -- the closure may answer so to what a piece is bound to, and without an error to each piece
      -- before it
      pub record MayAnswerOnBoth (answer : Result (Option X) E) : Type 0 where
        pub piece : AnyRange K
        pub left : Option V
        pub right : Option W
        pub is_piece : IsSharedPiece items others piece left right
        pub says : may left right answer
        pub before : (other : AnyRange K) (first : Option V) (second : Option W)
            → IsSharedPiece items others other first second → LiesBefore order other piece
            → (earlier : Option X) × may first second (Ok earlier)

      -- the closure may answer an error to what a piece is bound to, and none to those before it
      abbrev pub MayFailOnBoth : E → Type 0
      MayFailOnBoth e = MayAnswerOnBoth (Err e)

      -- the closure may answer a value to what a piece is bound to, and no error to those before it
      abbrev pub MayGiveValueOnBoth : Type 0
      MayGiveValueOnBoth = (value : X) × MayAnswerOnBoth (Ok (Some value))
