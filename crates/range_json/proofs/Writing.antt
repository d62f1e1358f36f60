-- What is written of a list while a loop goes over it.
use Rattle.std.proofs.Common.{◌≡◌, ap, ◌<◌, List, [], ◌∷◌, ◌++◌, length, map, append_assoc, append-nil, arith}
use Rattle.std.proofs.lemmas.List.{map-append}
use Rattle.std.specs.List.{AllByRecursion}
use Rattle.std.specs.Prelude.{Result, Ok, Err, OnOk}
use Rattle.range_algebra.specs.declared.any.AnyRange.{AnyRange}
use Rattle.range_store.specs.declared.storage.Item.{Item}
use Rattle.range_reads.specs.FreeRanges.{item_ranges}
use Rattle.serde_json.specs.Data.{Data}
use Rattle.serde_json.specs.View.{view}
use Rattle.serde_json.specs.declared.value.Value.{Value}

module _ {X : Type 0} (shape : X → Data) where
  -- the rest of the list is left, and all before it was written
  abbrev pub HasWritten : List X → List X → List Value → Type 0
  HasWritten all left written = map view written ++ map shape left ≡ map shape all

  -- one more was written
  pub written_more : (all left rest : List X) (x : X) (written : List Value) (v : Value)
      → left ≡ x ∷ rest → view v ≡ shape x → HasWritten all left written
      → HasWritten all rest (written ++ v ∷ [])
  written_more all left rest x written v step is h =
      rw (map-append view written (v ∷ []), append_assoc, is) (rw step at h)

  -- at the end all was written
  pub all_written : (all left : List X) (written : List Value) → left ≡ []
      → HasWritten all left written → map view written ≡ map shape all
  all_written all left written none h =
      rw (none, append-nil) at h

-- all that a loop has written are values, where what is left are
abbrev pub AreValuesSoFar : {X : Type 0} → (X → Type 0) → List X → List X → Type 0
AreValuesSoFar P all left = AllByRecursion P left → AllByRecursion P all

pub values_more : {X : Type 0} (P : X → Type 0) (all left rest : List X) (x : X) → left ≡ x ∷ rest
    → P x → AreValuesSoFar P all left → AreValuesSoFar P all rest
values_more P all left rest x step here h =
    λ later. h (rw step (here, later))

pub all_values : {X : Type 0} (P : X → Type 0) (all left : List X) → left ≡ []
    → AreValuesSoFar P all left → AllByRecursion P all
all_values P all left none h = h (rw none tt)

pub on_ok : {A E : Type 0} (r : Result A E) (P : Type 0) → P → OnOk r P
on_ok (Ok x) P p = p
on_ok (Err e) P p = tt

pub by_ranges : {K V : Type 0} (P : AnyRange K → Type 0) (items : List (Item (AnyRange K) V))
    → AllByRecursion P (item_ranges items) → AllByRecursion (λ i. P i.key) items
by_ranges P [] h = tt
by_ranges P (i ∷ items) h = (h.0, by_ranges P items h.1)
