-- Which of the earlier elements of a map is met, as their ranges are read again.
use Rattle.std.specs.Prelude.{◌≡◌, ℕ, Bool, List, ◌∷◌, ◌++◌, length, map, Some, None, Ok}
use Rattle.std.specs.List.{AllByRecursion}
use Rattle.serde_json.specs.Data.{Data}
use Rattle.serde_json.specs.View.{view}
use Rattle.serde_json.specs.declared.value.Value.{Value}
use Rattle.range_keys.specs.Order.{KeyOrder}
use Rattle.range_algebra.specs.declared.any.AnyRange.{AnyRange}
use Rattle.range_algebra.specs.Intervals.{Any}
use Rattle.range_json.specs.Faults.{IsRangeRead, range_fault}
use Rattle.range_json.specs.MapFaults.{MeetNonempty, map_elements}
use Rattle.range_json.specs.Shapes.{pair_of}

-- what the values stand for, one by one
abbrev pub all_views : List Value → List Data
all_views values = map view values

-- an array of two, the first of which is read as the range
abbrev pub IsRangeOf : {K : Type 0} → (Data → K → Type 0) → Data → AnyRange K → Type 0
IsRangeOf key_is_read d r =
    (ds : Data × Data) × (pair_of d ≡ Some ds) × IsRangeRead key_is_read ds.0 r

-- an array of two, the first of which has no fault as a range
abbrev pub HasSoundRange : (Data → Bool) → Data → Type 0
HasSoundRange key_reads d =
    (ds : Data × Data) × (pair_of d ≡ Some ds) × (range_fault key_reads 0 ds.0 ≡ None)

module _ {K : Type 0} (order : KeyOrder K) (key_is_read : Data → K → Type 0) where
  -- whatever the ranges of two elements are read as, they meet
  abbrev pub AlwaysMeet : Data → Data → Type 0
  AlwaysMeet e d = (r s : AnyRange K) → IsRangeOf key_is_read e r → IsRangeOf key_is_read d s
      → MeetNonempty order r s

  abbrev pub NeverMeet : Data → Data → Type 0
  NeverMeet e d = (r s : AnyRange K) → IsRangeOf key_is_read e r → IsRangeOf key_is_read d s
      → ¬ MeetNonempty order r s

  -- the ranges of two elements may be read as two that meet
  pub record MayMeet (e d : Data) : Type 0 where
    pub r : AnyRange K
    pub s : AnyRange K
    pub first : IsRangeOf key_is_read e r
    pub second : IsRangeOf key_is_read d s
    pub meet : MeetNonempty order r s

  -- the element at j is the first that meets d
  pub record IsFirstMeeting (ds : List Data) (d : Data) (j : ℕ) : Type 0 where
    pub front : List Data
    pub e : Data
    pub rest : List Data
    pub split : ds ≡ front ++ e ∷ rest
    pub place : length front ≡ j
    pub none : AllByRecursion (λ c. NeverMeet c d) front
    pub met : AlwaysMeet e d

  -- of the elements of a map before that at i, that at j is the first that meets it
  pub record IsFirstMetBy (whole : Data) (i j : ℕ) : Type 0 where
    pub front : List Data
    pub d : Data
    pub rest : List Data
    pub elements : map_elements whole ≡ Ok (front ++ d ∷ rest)
    pub place : length front ≡ i
    pub first : IsFirstMeeting front d j

  -- the element at i may meet one before it, and no range up to it has a fault
  pub record MayMeetEarlier (key_reads : Data → Bool) (whole : Data) (i : ℕ) : Type 0 where
    pub front : List Data
    pub d : Data
    pub rest : List Data
    pub elements : map_elements whole ≡ Ok (front ++ d ∷ rest)
    pub place : length front ≡ i
    pub sound : AllByRecursion (HasSoundRange key_reads) front
    pub own : HasSoundRange key_reads d
    pub meet : Any (λ e. MayMeet e d) front
