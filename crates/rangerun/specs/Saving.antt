-- What a map is saved as, and what loading a text answers.
use Rattle.std.specs.Prelude.{◌≡◌, ◌⊎◌, ℕ, ℤ, pos, negsuc, List, ◌∷◌, ◌++◌, Bool, false, None, Some, is_some, refl, codes, decimal}
use Rattle.std.specs.Ordering.{int_eq}
use Rattle.serde_json.specs.Data.{Data}
use Rattle.serde_json.specs.Read.{read}
use Rattle.serde_json.specs.Written.{compact_text, has_float}
use Rattle.btree_range_map.specs.AnyRange.{AnyRange}
use Rattle.btree_range_map.specs.Canonical.{IsCanonical}
use Rattle.btree_range_map.specs.Item.{Item}
use Rattle.btree_range_map.specs.JsonError.{JsonError}
use Rattle.btree_range_map.specs.JsonError.TheVariants.{Memory, NotArray, NotPair, NotRange, NotBound, Key, Value, Meets, Version}
use Rattle.btree_range_map.specs.Keys.{signed_of, signed_shape}
use Rattle.btree_range_map.specs.MapFaults.{IsMapRead, IsMapFault}
use Rattle.btree_range_map.specs.Order.{KeyOrder}
use Rattle.btree_range_map.specs.Shapes.{map_shape}
use Rattle.rangerun.specs.declared.saving.LoadError.{LoadError}
use Rattle.rangerun.specs.declared.saving.LoadError.TheVariants.{NotJson, Faulty}

-- the line that loads a text
abbrev pub load_line : List ℕ → List ℕ
load_line json = codes "load" ++ 32 ∷ json

-- the line of a fault of the element at a place
abbrev pub element_fault_text : ℕ → ℕ → List ℕ
element_fault_text number i =
    codes "json " ++ decimal number ++ codes " " ++ decimal i ++ codes "\n"

-- the line of a fault: its number, and the place of its element
abbrev pub fault_text : JsonError → List ℕ
fault_text Memory = codes "memory\n"
fault_text NotArray = codes "json 5\n"
fault_text (NotPair i) = element_fault_text 6 i
fault_text (NotRange i) = element_fault_text 7 i
fault_text (NotBound i) = element_fault_text 8 i
fault_text (Key i) = element_fault_text 9 i
fault_text (Value i) = element_fault_text 10 i
fault_text (Meets i) = element_fault_text 11 i
fault_text Version = codes "json 12\n"

-- the line of a text that is not loaded
abbrev pub cause_text : LoadError → List ℕ
cause_text NotJson = codes "bad json\n"
cause_text (Faulty fault) = fault_text fault

-- an `i64` is read of the JSON value
abbrev pub IsValueRead : Data → ℤ → Type 0
IsValueRead d value = signed_of 9223372036854775807 d ≡ Some value

pub integer_has_no_float : (z : ℤ) → has_float (signed_shape z) ≡ false
integer_has_no_float (pos n) = refl
integer_has_no_float (negsuc n) = refl

-- the map as one line of JSON text, or no memory for it
abbrev pub SpellsSaved : {K : Type 0} → (K → Data) → List (Item (AnyRange K) ℤ) → List ℕ → Type 0
SpellsSaved shape items text =
    (text ≡ compact_text (map_shape shape signed_shape items) ++ codes "\n") ⊎
    (text ≡ codes "memory\n")

-- of keys, each with the JSON values that it is read of
module _ {K : Type 0} (order : KeyOrder K) (reads : Data → Bool) (is_read : Data → K → Type 0) where
  -- the text has a JSON value, and the list is what it is read as
  abbrev pub IsLoaded : List ℕ → List (Item (AnyRange K) ℤ) → Type 0
  IsLoaded json items = (d : Data) × (read json ≡ Some d)
      × IsMapRead order reads (λ v. is_some (signed_of 9223372036854775807 v)) is_read IsValueRead
      int_eq d items
      × IsCanonical order int_eq items

  -- the text has no JSON value, or this is the first fault of its value, or there is no memory
  abbrev pub IsCause : List ℕ → LoadError → Type 0
  IsCause json NotJson = read json ≡ None
  IsCause json (Faulty fault) = (fault ≡ Memory) ⊎ ((d : Data) × (read json ≡ Some d)
      × IsMapFault order reads
      (λ v. is_some (signed_of 9223372036854775807 v)) is_read IsValueRead d fault)

  -- what loading a text answers, and the list that is stored then
  abbrev pub AnswersLoad : List (Item (AnyRange K) ℤ) → List ℕ → List ℕ → List (Item (AnyRange K) ℤ)
      → Type 0
  AnswersLoad items json text next = ((text ≡ codes "ok\n") × IsLoaded json next)
      ⊎ ((cause : LoadError) × IsCause json cause × (text ≡ cause_text cause) × (next ≡ items))
