-- What is read of a list while a loop goes over it.
use Rattle.std.proofs.Common.{◌≡◌, refl, sym, ap, ◌∙◌, ℕ, suc, ◌+◌, List, [], ◌∷◌, ◌++◌, map, length, Bool, true, ◌&&◌, if◌then◌else◌, codes, Option, Some, None, option_map, option_and_then, Err, append_assoc, arith, rules}
use Rattle.std.proofs.lemmas.Option.{none-some, same_Some}
use Rattle.std.specs.List.{AllZip}
use Rattle.serde_json.specs.Data.{Data, array, object}
use Rattle.serde_json.specs.Find.{as_array, as_number, as_object, as_u64, get, get_member}
use Rattle.serde_json.specs.View.{items_of}
use Rattle.json_trees.specs.LookUps.{are_named}
use Rattle.range_json.specs.Shapes.{list_of, elements_of}
use Rattle.range_json.specs.MapFaults.{are_known, is_two, map_elements, or_no_array}
use Rattle.range_json.specs.Faults.{before, first_fault}
use Rattle.range_json.specs.declared.error.JsonError.{JsonError}
use Rattle.range_json.specs.declared.error.JsonError.TheVariants.{Version}
use Rattle.range_json.specs.SetReadBack.{list_back}

abbrev MaybeFault : Type 0
MaybeFault = Option JsonError

pub before_none : (f g : MaybeFault) → before f g ≡ None → (f ≡ None) × (g ≡ None)
before_none None g h = (refl, h)
before_none (Some e) g h = absurd (none-some e (sym h))

module _ (fault : ℕ → Data → MaybeFault) where
  -- where the elements before have no fault, the first is one of those after
  pub fault_behind : (i : ℕ) (ds more : List Data) → first_fault fault i ds ≡ None
      → first_fault fault i (ds ++ more) ≡ first_fault fault (i + length ds) more
  fault_behind i [] more h = ap (λ n. first_fault fault n more) (omega arith)
  fault_behind i (d ∷ ds) more h =
      let (here, later) = before_none (fault i d) (first_fault fault (suc i) ds) h in
      ap (λ f. before f (first_fault fault (suc i) (ds ++ more))) here
      ∙ fault_behind (suc i) ds more later ∙ ap (λ n. first_fault fault n more) (omega arith)

  from_start : (ds more : List Data) → first_fault fault 0 ds ≡ None
      → first_fault fault 0 (ds ++ more) ≡ first_fault fault (length ds) more
  from_start ds more h = fault_behind 0 ds more h ∙ ap (λ n. first_fault fault n more) (omega arith)

  -- a fault of an element after elements without one is the first
  pub fault_first : (ds : List Data) (d : Data) (more : List Data) (e : JsonError)
      → first_fault fault 0 ds ≡ None → fault (length ds) d ≡ Some e
      → first_fault fault 0 (ds ++ d ∷ more) ≡ Some e
  fault_first ds d more e h at =
      from_start ds (d ∷ more) h ∙ ap (λ f. before f (first_fault fault (suc (length ds)) more)) at

  -- an element without fault after such elements
  pub no_fault_more : (ds : List Data) (d : Data) → first_fault fault 0 ds ≡ None
      → fault (length ds) d ≡ None → first_fault fault 0 (ds ++ d ∷ []) ≡ None
  no_fault_more ds d h at = from_start ds (d ∷ []) h ∙ ap (λ f. before f None) at

-- one more is read after those that are
pub read_more : {X : Type 0} (R : Data → X → Type 0) (ds : List Data) (xs : List X) (d : Data)
    (x : X) → AllZip R ds xs → R d x → AllZip R (ds ++ d ∷ []) (xs ++ x ∷ [])
read_more R [] [] d x h k = (k, tt)
read_more R (e ∷ ds) (y ∷ xs) d x h k = (h.0, read_more R ds xs d x h.1 k)
read_more R ds xs d x h k = absurd h

pub same_length : {T : Type 0} (content : T → Data) (vs : List T)
    → length (map content vs) ≡ length vs
same_length content [] = refl
same_length content (v ∷ vs) = ap suc (same_length content vs)

-- an array's elements are its list
pub array_has_elements : {T : Type 0} (content : T → Data) (d : Data) (vs : List T)
    → as_array d ≡ Some (items_of (map content vs)) → elements_of d ≡ Some (map content vs)
array_has_elements content (array ds) vs e =
    let same : ds ≡ items_of (map content vs) = search (rules, e) in
    ap (λ is. Some (list_of is)) same ∙ ap (λ l. Some l) (list_back (map content vs))
array_has_elements content d vs e = absurd (none-some _ e)

-- the elements of an object of version 2
pub version_2_has_items : (d items : Data)
    → Some true ≡ option_map (are_named (codes "version") (codes "items")) (as_object d)
    → option_and_then as_u64 (option_and_then as_number (get (codes "version") d)) ≡ Some 2
    → Some items ≡ get (codes "items") d → map_elements d ≡ or_no_array (elements_of items)
version_2_has_items (object ms) items known version found =
    let elements =
    or_no_array (option_and_then elements_of (get_member (codes "items") ms)) in
    ap (λ v. if is_two v && are_known ms then elements else Err Version) version
    ∙ ap (λ b. if b then elements else Err Version)
    (sym (same_Some true (are_known ms) known))
    ∙ ap (λ o. or_no_array (option_and_then elements_of o)) (sym found)
version_2_has_items d items known version found = absurd (none-some true (sym known))

pub append_one_more : {T : Type 0} (xs : List T) (v : T) (more : List T)
    → (xs ++ v ∷ []) ++ more ≡ xs ++ v ∷ more
append_one_more xs v more = append_assoc xs (v ∷ []) more
