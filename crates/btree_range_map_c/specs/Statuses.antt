-- What a call answers, by the handles that it is given.
use Rattle.std.specs.Prelude.{◌≡◌, ◌⊎◌, ℕ, true, false, List, [], ◌∷◌, Option}
use Rattle.range_ffi.specs.declared.status.TheConstants.{CLOSED, OTHER_KIND}
use Rattle.range_handles.specs.declared.collection.Collection.{Collection}
use Rattle.range_handles.specs.declared.handle.Handle.{Handle}

-- the status is one of these
abbrev pub IsOneOf : ℕ → List ℕ → Type 0
IsOneOf status [] = ⊥
IsOneOf status (one ∷ []) = status ≡ one
IsOneOf status (one ∷ others) = (status ≡ one) ⊎ IsOneOf status others

-- the answer of a call on a handle that is open on such a collection is one of the statuses, and of
-- another handle it says what is wrong
abbrev pub IsAnswer : (Option Collection → Type 0) → Handle → ℕ → List ℕ → Type 0
IsAnswer Holds handle status statuses =
    record {
      fitting : Holds handle.seal.held → IsOneOf status statuses;
      closed : handle.is_open ≡ false → status ≡ CLOSED;
      other : handle.is_open ≡ true → ¬ Holds handle.seal.held → status ≡ OTHER_KIND;
    }

-- so it is with a call on two handles
abbrev pub IsAnswerOfTwo : (Option Collection → Option Collection → Type 0) → Handle → Handle → ℕ
    → List ℕ → Type 0
IsAnswerOfTwo Fit handle other status statuses =
    record {
      fitting : Fit handle.seal.held other.seal.held → IsOneOf status statuses;
      closed : (handle.is_open ≡ false) ⊎ (other.is_open ≡ false) → status ≡ CLOSED;
      other : handle.is_open ≡ true → other.is_open ≡ true
          → ¬ Fit handle.seal.held other.seal.held → status ≡ OTHER_KIND;
    }

-- both are such collections
abbrev pub Both : (Option Collection → Type 0) → Option Collection → Option Collection → Type 0
Both Holds held other = Holds held × Holds other
