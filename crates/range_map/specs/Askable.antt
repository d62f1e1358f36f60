-- What a caller of an update says of its closure: that it may be asked of whatever comes.
use Rattle.std.specs.Prelude.{List, [], ◌∷◌, Option, Some, None}
use Rattle.range_map.specs.Common.{Shared, Bor, Every, AnyRange, Item, MayBeAsked}

-- f may be called where it is shown the value of any of the items
abbrev pub MayBeAskedOfEach : {K F V A : Type 0} → Shared F (Option (Bor V) × Unit {0}) A → F
    → List (Item (AnyRange K) V) → Type 0
MayBeAskedOfEach calls f items = Every (λ i. MayBeAsked calls f (Some i.value)) items

-- f may be called whatever it is shown
abbrev pub MayBeAskedAnything : {F V A : Type 0} → Shared F (Option (Bor V) × Unit {0}) A → F
    → Type 0
MayBeAskedAnything {F} {V} calls f = (shown : Option (Bor V)) → calls.pre f (shown, tt)

module _ {F V A : Type 0} (calls : Shared F (Option (Bor V) × Unit {0}) A) (f : F)
    (anything : MayBeAskedAnything calls f) where
  pub asked_anything_asked_of_free : MayBeAsked calls f None
  asked_anything_asked_of_free shown e = anything shown

  pub asked_anything_asked_of_each : {K : Type 0} (items : List (Item (AnyRange K) V))
      → MayBeAskedOfEach calls f items
  asked_anything_asked_of_each [] = tt
  asked_anything_asked_of_each (i ∷ items) =
      (λ shown e. anything shown, asked_anything_asked_of_each items)
