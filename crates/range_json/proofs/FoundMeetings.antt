-- That a fault of one element which meets an earlier one is found, as the ranges are read again.
use Rattle.std.proofs.Common.{◌≡◌, refl, sym, ap, ◌∙◌, ℕ, suc, arith, length, Bool, true, false, List, [], ◌∷◌, ◌++◌, Option, Some, None, Result, Ok, Err, inl, inr}
use Rattle.std.specs.Prelude.{codes, option_and_then, if◌then◌else◌}
use Rattle.std.specs.List.{AllByRecursion, AllZip}
use Rattle.std.specs.declared.ops.Bound.{Bound}
use Rattle.std.specs.declared.ops.Bound.TheVariants.{Included, Excluded, Unbounded}
use Rattle.std.proofs.lemmas.Option.{same_Some, none-some}
use Rattle.serde_json.specs.Data.{Data, array, object}
use Rattle.serde_json.specs.Find.{as_array, get_member}
use Rattle.range_keys.specs.Order.{KeyOrder}
use Rattle.range_algebra.specs.Intervals.{Any}
use Rattle.range_algebra.specs.declared.any.AnyRange.{AnyRange}
use Rattle.range_store.specs.declared.storage.Item.{Item}
use Rattle.range_json.specs.declared.error.JsonError.{JsonError}
use Rattle.range_json.specs.declared.error.JsonError.TheVariants.{Key, Meets, Value, Version}
use Rattle.range_json.specs.Faults.{before, bound_fault, bounds_fault, first_fault, parts_fault, range_fault}
use Rattle.range_json.specs.MapFaults.{IsElementRead, IsFaultOf, IsMapFault, MeetsOne, element_fault, is_version_2, map_elements, or_no_array, pair_fault, value_fault}
use Rattle.range_json.specs.Meetings.{HasSoundRange, IsRangeOf, MayMeet, MayMeetEarlier, NeverMeet}
use Rattle.range_json.specs.Shapes.{bound_of, elements_of, pair_of}
use Rattle.range_json.proofs.Reading.{before_none}

-- no fault of meeting an earlier element
abbrev IsOther : Option JsonError → Type 0
IsOther f = (i : ℕ) → f ≡ Some (Meets i) → ⊥

before_other : (f g : Option JsonError) → IsOther f → IsOther g → IsOther (before f g)
before_other None g h k = k
before_other (Some e) g h k = h

if_other : (b : Bool) (e : JsonError) → ((i : ℕ) → e ≡ Meets i → ⊥)
    → IsOther (if b then None else Some e)
if_other true e h i is = none-some (Meets i) is
if_other false e h i is = h i (same_Some e (Meets i) is)

if_none : (b : Bool) (e f : JsonError) → (if b then None else Some e) ≡ None
    → (if b then None else Some f) ≡ None
if_none true e f h = refl
if_none false e f h = absurd (none-some e (sym h))

module _ (key_reads : Data → Bool) where
  parts_none : (i j : ℕ) (p : Option (Bound Data)) → parts_fault key_reads i p ≡ None
      → parts_fault key_reads j p ≡ None
  parts_none i j None h = absurd (none-some _ (sym h))
  parts_none i j (Some (Included d)) h = if_none (key_reads d) (Key i) (Key j) h
  parts_none i j (Some (Excluded d)) h = if_none (key_reads d) (Key i) (Key j) h
  parts_none i j (Some Unbounded) h = refl

  -- a range without fault has none wherever it stands
  bounds_none : (i j : ℕ) (p : Option (Data × Data)) → bounds_fault key_reads i p ≡ None
      → bounds_fault key_reads j p ≡ None
  bounds_none i j None h = absurd (none-some _ (sym h))
  bounds_none i j (Some p) h = grind (arith, before_none, parts_none)

  parts_other : (j : ℕ) (p : Option (Bound Data)) → IsOther (parts_fault key_reads j p)
  parts_other j (Some (Included d)) = if_other (key_reads d) (Key j) (λ i is. cc)
  parts_other j (Some (Excluded d)) = if_other (key_reads d) (Key j) (λ i is. cc)
  parts_other j p = λ i is. cc

  bounds_other : (j : ℕ) (p : Option (Data × Data)) → IsOther (bounds_fault key_reads j p)
  bounds_other j None = λ i is. cc
  bounds_other j (Some p) =
      before_other (bound_fault key_reads j p.0) (bound_fault key_reads j p.1)
      (parts_other j (bound_of p.0)) (parts_other j (bound_of p.1))

  module _ (value_reads : Data → Bool) where
    pair_other : (j : ℕ) (p : Option (Data × Data)) → IsOther (pair_fault key_reads value_reads j p)
    pair_other j None = λ i is. cc
    pair_other j (Some p) =
        before_other (range_fault key_reads j p.0) (value_fault value_reads j p.1)
        (bounds_other j (pair_of p.0)) (if_other (value_reads p.1) (Value j) (λ i is. cc))

    sound_range : (i : ℕ) (p : Option (Data × Data)) → pair_fault key_reads value_reads i p ≡ None
        → (ds : Data × Data) × (p ≡ Some ds) × (range_fault key_reads 0 ds.0 ≡ None)
    sound_range i None h = absurd (none-some _ (sym h))
    sound_range i (Some p) h =
        let parts =
        before_none (range_fault key_reads i p.0) (value_fault value_reads i p.1) h in
        (p, refl, bounds_none i 0 (pair_of p.0) parts.0)

    -- elements without fault have sound ranges
    sound_ranges : (i : ℕ) (ds : List Data)
        → first_fault (element_fault key_reads value_reads) i ds ≡ None
        → AllByRecursion (HasSoundRange key_reads) ds
    sound_ranges i [] h = tt
    sound_ranges i (d ∷ ds) h =
        let parts =
        before_none (element_fault key_reads value_reads i d)
        (first_fault (element_fault key_reads value_reads) (suc i) ds) h in
        (sound_range i (pair_of d) parts.0, sound_ranges (suc i) ds parts.1)

object_other : (b : Bool) (ds : Option (List Data)) (i : ℕ)
    → (if b then or_no_array ds else Err Version) ≡ Err (Meets i) → ⊥
object_other true None i is = cc
object_other true (Some ds) i is = cc
object_other false ds i is = cc

-- the fault of a whole map is no meeting
whole_other : (d : Data) (i : ℕ) → map_elements d ≡ Err (Meets i) → ⊥
whole_other (object ms) i is =
    object_other (is_version_2 ms) (option_and_then elements_of (get_member (codes "items") ms)) i
    is
whole_other d i is = cc

same_index : (i j : ℕ) → Meets i ≡ Meets j → j ≡ i
same_index i j e = cc

module _ {K V : Type 0} (order : KeyOrder K) (key_is_read : Data → K → Type 0)
    (value_is_read : Data → V → Type 0) where
  one_met : (front : List Data) (earlier : List (Item (AnyRange K) V)) (d : Data) (r : AnyRange K)
      → AllZip (IsElementRead key_is_read value_is_read) front earlier
      → IsRangeOf key_is_read d r → MeetsOne order r earlier
      → Any (λ e. MayMeet order key_is_read e d) front
  one_met [] [] d r read own meets = meets
  one_met (e ∷ front) (x ∷ xs) d r read own (inl here) =
      inl (record {
        r = x.key;
        s = r;
        first = (read.0.0, read.0.1, read.0.2);
        second = own;
        meet = here;
      })
  one_met (e ∷ front) (x ∷ xs) d r read own (inr later) =
      inr (one_met front xs d r read.1 own later)
  one_met front earlier d r read own meets = absurd read

  module _ (key_reads value_reads : Data → Bool) where
    met_among : (whole : Data) (i : ℕ) (elements : Result (List Data) JsonError)
        → map_elements whole ≡ elements
        → IsFaultOf order key_reads value_reads key_is_read value_is_read elements (Meets i)
        → MayMeetEarlier order key_is_read key_reads whole i
    met_among whole i (Err e) is fault =
        absurd (whole_other whole i (is ∙ ap (λ f. Err f) (sym fault)))
    met_among whole i (Ok ds) is fault =
        grind (arith, one_met, pair_other, same_index, sound_range, sound_ranges)

    -- where the fault is that an element meets an earlier one, it may meet one
    pub meets_earlier : (whole : Data) (i : ℕ)
        → IsMapFault order key_reads value_reads key_is_read value_is_read whole (Meets i)
        → MayMeetEarlier order key_is_read key_reads whole i
    meets_earlier whole i fault = met_among whole i (map_elements whole) refl fault

-- what never meets any of the elements may meet none
pub none_met : {K : Type 0} (order : KeyOrder K) (key_is_read : Data → K → Type 0)
    (xs : List Data) (d : Data) → AllByRecursion (λ c. NeverMeet order key_is_read c d) xs
    → Any (λ e. MayMeet order key_is_read e d) xs → ⊥
none_met order key_is_read [] d never met = met
none_met order key_is_read (x ∷ xs) d never (inl here) =
    never.0 here.r here.s here.first here.second here.meet
none_met order key_is_read (x ∷ xs) d never (inr later) =
    none_met order key_is_read xs d never.1 later

-- what holds of all elements holds of one in their midst
pub all_midst : {X : Type 0} (P : X → Type 0) (xs : List X) (x : X) (ys : List X)
    → AllByRecursion P (xs ++ x ∷ ys) → P x
all_midst P [] x ys h = h.0
all_midst P (y ∷ xs) x ys h = all_midst P xs x ys h.1

-- the parts of a list before and at one place
pub same_parts : {X : Type 0} (xs ys : List X) (x y : X) (more rest : List X)
    → xs ++ x ∷ more ≡ ys ++ y ∷ rest → length xs ≡ length ys → (xs ≡ ys) × (x ≡ y)
same_parts [] [] x y more rest e n = (refl, cc)
same_parts (a ∷ xs) (b ∷ ys) x y more rest e n =
    let tail : xs ++ x ∷ more ≡ ys ++ y ∷ rest = cc in
    let heads : a ≡ b = cc in
    let same = same_parts xs ys x y more rest tail (omega (arith, n)) in
    (ap (λ l. a ∷ l) same.0 ∙ ap (λ c. c ∷ ys) heads, same.1)
same_parts xs ys x y more rest e n = absurd cc

pub same_elements : (found : Result (List Data) JsonError) (ds es : List Data) → found ≡ Ok ds
    → found ≡ Ok es → ds ≡ es
same_elements found ds es is other = cc
