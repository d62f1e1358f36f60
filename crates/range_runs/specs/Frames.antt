-- How a change leaves what it does not concern, and what it puts in the place of the rest.
use Rattle.std.specs.Prelude.{◌≡◌, ◌+◌, ◌≤◌, ◌∷◌, ◌++◌, ◌⊎◌}
use Rattle.range_runs.specs.Common.{Every, Bool, IsTrue, List, [], length, Bound, KeyOrder, SameBound, Any, AnyRange, Item, Touches}
use Rattle.range_runs.specs.Edits.{flipped_bound}
use Rattle.range_runs.specs.Lookups.{Overlap}

-- a run of the list gave way to others, as the relation says, and all else stands as before
pub record IsSpliceFrame {T : Type 0} (items new : List T)
    (AreSuch : List T → List T → Type 0) : Type 0 where
  pub front : List T
  pub run : List T
  pub others : List T
  pub behind : List T
  pub before : items ≡ front ++ run ++ behind
  pub after : new ≡ front ++ others ++ behind
  pub such : AreSuch run others

module _ {K : Type 0} (order : KeyOrder K) {V : Type 0} where
  -- the start is that of the range or of a run's item, or begins just after the range
  abbrev pub IsStartOf : List (Item (AnyRange K) V) → AnyRange K → Bound K → Type 0
  IsStartOf run r b =
      (b ≡ r.start) ⊎ (Any (λ i. b ≡ i.key.start) run ⊎ SameBound order (flipped_bound r.end) b)

  -- the end is that of the range or of a run's item, or stops just before the range
  abbrev pub IsEndOf : List (Item (AnyRange K) V) → AnyRange K → Bound K → Type 0
  IsEndOf run r b =
      (b ≡ r.end) ⊎ (Any (λ i. b ≡ i.key.end) run ⊎ SameBound order (flipped_bound r.start) b)

  module _ (same_value : V → V → Bool) where
    -- the item touches the range from one side, and one of the list that meets the range has its
    -- bound on the other side, and an equal value
    abbrev pub IsMergedInto : List (Item (AnyRange K) V) → AnyRange K → Item (AnyRange K) V → Type 0
    IsMergedInto items r i =
        (Touches order i.key r
        × Any (λ j. (j.key.start ≡ i.key.start) × Overlap order j.key r
        × IsTrue (same_value i.value j.value)) items)
        ⊎ (Touches order r i.key
        × Any (λ j. (j.key.end ≡ i.key.end) × Overlap order j.key r
        × IsTrue (same_value i.value j.value)) items)

    -- each item that the range does not meet stands as before, or is merged into one that now meets
    -- it
    abbrev pub IsUpdateFrame : List (Item (AnyRange K) V) → List (Item (AnyRange K) V) → AnyRange K
        → Type 0
    IsUpdateFrame items new r =
        Every (λ i. ¬ Overlap order i.key r → Any (λ j. j ≡ i) new ⊎ IsMergedInto new r i) items

    -- some item of the run has an equal value
    abbrev pub HasValue : List (Item (AnyRange K) V) → V → Type 0
    HasValue run v = Any (λ i. IsTrue (same_value v i.value)) run

    -- each item of the run meets the range or is merged, and the value of each other one is such or
    -- equals one of the run's
    pub record IsMergedRun (r : AnyRange K) (IsSuch : V → Type 0)
        (run others : List (Item (AnyRange K) V)) : Type 0 where
      pub concerned : Every (λ i. Overlap order i.key r ⊎ IsMergedInto others r i) run
      pub valued : Every (λ j. HasValue run j.value ⊎ IsSuch j.value) others

    -- such a run gave way to others
    abbrev pub IsMergeFrame : List (Item (AnyRange K) V) → List (Item (AnyRange K) V) → AnyRange K
        → (V → Type 0) → Type 0
    IsMergeFrame items new r IsSuch = IsSpliceFrame items new (IsMergedRun r IsSuch)

    -- the item meets the range, or touches it with an equal value
    abbrev pub JoinsOrMeets : AnyRange K → V → Item (AnyRange K) V → Type 0
    JoinsOrMeets r v i =
        Overlap order i.key r ⊎ ((Touches order i.key r ⊎ Touches order r i.key)
        × IsTrue (same_value i.value v))

    -- the bounds and the value of an item that is put in the place of a run, where the range is
    -- bound to v
    pub record IsNewItem (run : List (Item (AnyRange K) V)) (r : AnyRange K) (v : V)
        (j : Item (AnyRange K) V) : Type 0 where
      pub start : IsStartOf run r j.key.start
      pub end : IsEndOf run r j.key.end
      pub value : IsTrue (same_value j.value v) ⊎ HasValue run j.value

    -- each item of the run meets the range or touches it with an equal value, and there is one
    -- other where the run's values all equal v
    pub record IsBoundRun (r : AnyRange K) (v : V)
        (run others : List (Item (AnyRange K) V)) : Type 0 where
      pub concerned : Every (JoinsOrMeets r v) run
      pub few : length others ≤ length run + 2
      pub whole : run ≡ [] → others ≡ record { key = r; value = v } ∷ []
      pub one : Every (λ i. IsTrue (same_value i.value v)) run → length others ≤ 1
      pub made : Every (IsNewItem run r v) others

    -- such a run gave way to others
    abbrev pub IsInsertionFrame : List (Item (AnyRange K) V) → List (Item (AnyRange K) V)
        → AnyRange K → V
        → Type 0
    IsInsertionFrame items new r v = IsSpliceFrame items new (IsBoundRun r v)

    -- the bounds and the value of what is left of an item that the range cuts
    pub record IsPart (run : List (Item (AnyRange K) V)) (r : AnyRange K)
        (j : Item (AnyRange K) V) : Type 0 where
      pub start : IsStartOf run r j.key.start
      pub end : IsEndOf run r j.key.end
      pub value : HasValue run j.value

    -- each item of the run meets the range, and the others are its parts outside the range
    pub record IsCutRun (r : AnyRange K) (run others : List (Item (AnyRange K) V)) : Type 0 where
      pub concerned : Every (λ i. Overlap order i.key r) run
      pub few : length others ≤ length run + 1
      pub whole : run ≡ [] → others ≡ []
      pub made : Every (IsPart run r) others

    -- such a run gave way to its parts
    abbrev pub IsRemovalFrame : List (Item (AnyRange K) V) → List (Item (AnyRange K) V) → AnyRange K
        → Type 0
    IsRemovalFrame items new r = IsSpliceFrame items new (IsCutRun r)
