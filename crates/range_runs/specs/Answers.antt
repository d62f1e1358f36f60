-- What the closure of an update may be asked and may answer, and what its answers make of a list.
use Rattle.std.specs.Prelude.{◌≡◌, ◌↔◌, ◌++◌, ◌∷◌}
use Rattle.range_runs.specs.Common.{Bool, IsTrue, List, Option, Some, None, Result, Ok, Err, map, option_copied, Bor, Every, KeyOrder, Any, Holds, AnyRange, Item}
use Rattle.std.specs.Fn.{Shared}
use Rattle.range_runs.specs.Bindings.{Binds}
use Rattle.range_runs.specs.Frames.{IsMergeFrame}
use Rattle.range_runs.specs.Pieces.{ArePieces, LiesIn}
use Rattle.range_runs.specs.Stored.{IsStored}

-- the closure f may answer a where it is shown the value, or none
pub record MayAnswer {F V A : Type 0} (calls : Shared F (Option (Bor V) × Unit {0}) A) (f : F)
    (value : Option V) (a : A) : Type 0 where
  pub shown : Option (Bor V)
  pub shows : option_copied shown ≡ value
  pub says : calls.post f (shown, tt) a

-- f may be called where it is shown the value, or none
abbrev pub MayBeAsked : {F V A : Type 0} → Shared F (Option (Bor V) × Unit {0}) A → F → Option V
    → Type 0
MayBeAsked {F} {V} calls f value = (shown : Option (Bor V)) → option_copied shown ≡ value
    → calls.pre f (shown, tt)

-- f may give some answer where it is shown the value, and the answer is such
abbrev pub IsAnsweredBy : {F V E : Type 0}
    → Shared F (Option (Bor V) × Unit {0}) (Result (Option V) E) → F → Option V
    → (Option V → Type 0) → Type 0
IsAnsweredBy {F} {V} calls f value P =
    (answer : Option V) × MayAnswer calls f value (Ok answer) × P answer

-- a piece of a range, the value that its keys are bound to, if they are, and the answer to it
pub record Answered (K V : Type 0) : Type 0 where
  pub key : AnyRange K
  pub value : Option V
  pub answer : Option V

abbrev pub piece_of : {K V : Type 0} → Answered K V → Item (AnyRange K) (Option V)
piece_of a = record { key = a.key; value = a.value }

module _ {V : Type 0} (same : V → V → Bool) where
  -- the binding is as the answer says: to a value that equals the one given, or none
  abbrev pub IsAsAnswered : Option V → Option V → Type 0
  IsAsAnswered None b = b ≡ None
  IsAsAnswered (Some v) None = ⊥
  IsAsAnswered (Some v) (Some w) = IsTrue (same v w)

  -- some answer gives an equal value
  abbrev pub IsGivenBy : {K : Type 0} → List (Answered K V) → V → Type 0
  IsGivenBy answers v = Any (λ a. IsAsAnswered a.answer (Some v)) answers

-- the answers are to the pieces of the range, one to each
abbrev pub AreAnswersTo : {K V : Type 0} → KeyOrder K → List (Item (AnyRange K) V) → AnyRange K
    → List (Answered K V) → Type 0
AreAnswersTo order items r answers = ArePieces order items r (map piece_of answers)

module _ {K : Type 0} (order : KeyOrder K) {V : Type 0} (same : V → V → Bool) where
  -- over what the closure may answer to a value, or to none
  module _ {E : Type 0} (may : Option V → Result (Option V) E → Type 0) where
    -- there is one answer for each piece, and each key of the range is bound as the answer to its
    -- piece says, each other key as before
    pub record IsAnswered (items new : List (Item (AnyRange K) V)) (r : AnyRange K) : Type 0 where
      pub answers : List (Answered K V)
      pub pieces : AreAnswersTo order items r answers
      pub given : Every (λ a. may a.value (Ok a.answer)) answers
      pub held : (k : K) → order.is_key k → Holds order r k
          → Any (λ a. Holds order a.key k
          × ((b : Option V) → Binds order same new k b ↔ IsAsAnswered same a.answer b)) answers
      pub others : (k : K) → order.is_key k → ¬ Holds order r k → (b : Option V)
          → Binds order same new k b ↔ Binds order same items k b

    -- the closure may answer so to the value of a piece, and without an error to each piece before
    -- it
    pub record MayAnswerPiece (items : List (Item (AnyRange K) V)) (r : AnyRange K)
        (answer : Result (Option V) E) : Type 0 where
      pub front : List (Answered K V)
      pub piece : Item (AnyRange K) (Option V)
      pub rest : List (Item (AnyRange K) (Option V))
      pub pieces : ArePieces order items r (map piece_of front ++ piece ∷ rest)
      pub given : Every (λ a. may a.value (Ok a.answer)) front
      pub says : may piece.value answer

    -- the closure may answer an error to the value of a piece, and none to those before it
    abbrev pub MayFail : List (Item (AnyRange K) V) → AnyRange K → E → Type 0
    MayFail items r e = MayAnswerPiece items r (Err e)

  module _ {F E : Type 0} (calls : Shared F (Option (Bor V) × Unit {0}) (Result (Option V) E))
      (f : F) where
    -- each key of the range is bound as an answer of f says, and what the range does not concern
    -- stands
    pub record IsUpdated (items new : List (Item (AnyRange K) V)) (r : AnyRange K) : Type 0 where
      pub answered : IsAnswered (MayAnswer calls f) items new r
      pub frame : IsMergeFrame order same items new r (IsGivenBy same answered.answers)

    -- f may answer so to the value of a piece, and without an error to each piece before it
    abbrev pub AnswersPiece : List (Item (AnyRange K) V) → AnyRange K → Result (Option V) E
        → Type 0
    AnswersPiece = MayAnswerPiece (MayAnswer calls f)

    -- f may answer an error to the value of a piece, and none to those before it
    abbrev pub FailsAt : List (Item (AnyRange K) V) → AnyRange K → E → Type 0
    FailsAt items r e = AnswersPiece items r (Err e)

    -- f may answer without an error to the value of a piece, and to those before it
    abbrev pub SucceedsAtFirst : List (Item (AnyRange K) V) → AnyRange K → Type 0
    SucceedsAtFirst items r = (answer : Option V) × AnswersPiece items r (Ok answer)

    -- a list in stored form within the range, which binds its keys as the answers to its pieces say
    pub record IsGathered (items : List (Item (AnyRange K) V)) (r : AnyRange K)
        (middle : List (Item (AnyRange K) V)) : Type 0 where
      pub stored : IsStored order same middle
      pub within : Every (λ i. LiesIn order i.key r) middle
      pub answers : List (Answered K V)
      pub pieces : AreAnswersTo order items r answers
      pub given : Every (λ a. MayAnswer calls f a.value (Ok a.answer)) answers
      pub held : (k : K) → order.is_key k → Holds order r k
          → Any (λ a. Holds order a.key k
          × ((b : Option V) → Binds order same middle k b ↔ IsAsAnswered same a.answer b)) answers
      pub valued : Every (λ j. Any (λ a. a.answer ≡ Some j.value) answers) middle
