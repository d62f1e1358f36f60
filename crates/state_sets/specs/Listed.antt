-- Sets of states in a list.
use Rattle.std.specs.Prelude.{◌≡◌, ℕ, List, [], ◌∷◌, ◌++◌, Some, slice_get}
use Rattle.std.specs.Ordering.{nat_cmp}
use Rattle.std.specs.BTreeSet.{BTreeSet, contains}

abbrev pub HaveSameStates : BTreeSet ℕ → BTreeSet ℕ → Type 0
HaveSameStates set other = (q : ℕ) → contains nat_cmp set q ≡ contains nat_cmp other q

-- none of the sets has the states of this one
abbrev pub IsNewTo : List (BTreeSet ℕ) → BTreeSet ℕ → Type 0
IsNewTo sets set = (i : ℕ) (other : BTreeSet ℕ) → slice_get sets i ≡ Some other
    → ¬ HaveSameStates other set

-- at the index stands a set with the states of this one
abbrev pub IsIndexOf : List (BTreeSet ℕ) → BTreeSet ℕ → ℕ → Type 0
IsIndexOf sets set i = (same : BTreeSet ℕ) × (slice_get sets i ≡ Some same)
    × HaveSameStates same set

-- behind the list stands a set with the states of this one
abbrev pub AddsLike : List (BTreeSet ℕ) → List (BTreeSet ℕ) → BTreeSet ℕ → Type 0
AddsLike before after set =
    (copy : BTreeSet ℕ) × (after ≡ before ++ copy ∷ []) × HaveSameStates copy set

-- what stood at an index still stands there; others may stand behind
abbrev pub KeepsAll : {X : Type 0} → List X → List X → Type 0
KeepsAll {X} before after = (i : ℕ) (x : X) → slice_get before i ≡ Some x
    → slice_get after i ≡ Some x
