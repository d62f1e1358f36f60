-- What is written of a list while a loop goes over it.
use Rattle.std.proofs.Common.{◌≡◌, refl, List, [], ◌∷◌, ◌++◌, map}
use Rattle.std.specs.List.{AllByRecursion}
use Rattle.serde_json.specs.Data.{Data}
use Rattle.serde_json.specs.View.{view}
use Rattle.serde_json.specs.declared.value.Value.{Value}
use Rattle.range_json.proofs.Writing.{written_more, values_more, all_written, all_values, AreValuesSoFar, HasWritten}

-- all before the rest of the list was written, and has values
pub record IsWrittenSoFar {X : Type 0} (shape : X → Data) (IsValue : X → Type 0) (all left : List X)
    (done : List Value) : Type 0 where
  pub written : HasWritten shape all left done
  pub values : AreValuesSoFar IsValue all left

pub writing_begun : {X : Type 0} {shape : X → Data} {IsValue : X → Type 0} (all left : List X)
    (done : List Value) → left ≡ all → done ≡ [] → IsWrittenSoFar shape IsValue all left done
writing_begun all left done whole none = rw (whole, none) (record { written = refl; values = λ h. h })

module _ {X : Type 0} {shape : X → Data} {IsValue : X → Type 0} {all left : List X}
    {done : List Value} (h : IsWrittenSoFar shape IsValue all left done) where
  pub one_written : (x : X) (v : Value) (new : List Value) {rest : List X} → left ≡ x ∷ rest
      → view v ≡ shape x → IsValue x → new ≡ done ++ v ∷ []
      → IsWrittenSoFar shape IsValue all rest new
  one_written x v new {rest} step is good more = record {
    written = rw more (written_more shape all left rest x done v step is h.written);
    values = values_more IsValue all left rest x step good h.values;
  }

  pub are_written : left ≡ []
      → (map view done ≡ map shape all) × AllByRecursion IsValue all
  are_written none =
      (all_written shape all left done none h.written, all_values IsValue all left none h.values)
