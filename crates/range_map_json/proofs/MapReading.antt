-- What is read of a map's elements while a loop goes over them.
use Rattle.std.proofs.Common.{◌≡◌, sym, subst, ◌⊎◌, inl, inr, ℕ, ◌+◌, ◌<◌, List, map, take, drop, get_or, length, Bool, Some, None, Result, Ok, Err}
use Rattle.std.specs.Prelude.{IfErr}
use Rattle.serde_json.specs.Data.{Data}
use Rattle.range_keys.specs.Order.{KeyOrder}
use Rattle.range_algebra.specs.declared.any.AnyRange.{AnyRange}
use Rattle.range_algebra.specs.Range.{IsEmptyRange, IsKeyRange}
use Rattle.range_store.specs.declared.storage.Item.{Item}
use Rattle.range_runs.specs.Lookups.{MeetsSome}
use Rattle.range_json.specs.declared.error.JsonError.{JsonError}
use Rattle.range_json.specs.declared.error.JsonError.TheVariants.{Memory, Meets}
use Rattle.range_json.specs.MapFaults.{element_fault, map_elements, AreRead, IsElementRead, IsFaultOf, IsMapFault, MeetsEarlier}
use Rattle.range_map_json.proofs.BoundElements.{IsBoundAlike}
use Rattle.range_map_json.proofs.ElementLoop.{parted, place, IsReadSoFar}

module _ {K V T : Type 0} (content : T → Data) (order : KeyOrder K)
    (key_reads value_reads : Data → Bool) (key_is_read : Data → K → Type 0) (value_is_read : Data → V → Type 0)
    (same : V → V → Bool) where
  -- the values have no fault, and the list binds what they bind and meets what they meet
  abbrev pub IsMapSoFar : List T → List (Item (AnyRange K) V) → Type 0
  IsMapSoFar =
      IsReadSoFar content order same (λ xs. xs) (λ x. x) (element_fault key_reads value_reads)
      (IsElementRead key_is_read value_is_read) (IsBoundAlike order same)

module _ {K V T : Type 0} {content : T → Data} {order : KeyOrder K} {key_reads value_reads : Data → Bool}
    {key_is_read : Data → K → Type 0} {value_is_read : Data → V → Type 0}
    {same : V → V → Bool} where
  pub are_read : {vs : List T} {items : List (Item (AnyRange K) V)}
      (h : IsMapSoFar content order key_reads value_reads key_is_read value_is_read same vs items)
      → AreRead order key_reads value_reads key_is_read value_is_read (map content vs) h.elements
  are_read h =
      record { sound = h.sound; read = h.read; known = h.known; apart = h.bound.apart }

module _ {K V T : Type 0} {content : T → Data} {order : KeyOrder K} (key_reads value_reads : Data → Bool)
    {key_is_read : Data → K → Type 0} (value_is_read : Data → V → Type 0)
    {same : V → V → Bool} where
  module _ (d : Data) (vs : List T) (n : ℕ) (v : T) (within : n < length vs)
      (at : v ≡ get_or vs n v) {items : List (Item (AnyRange K) V)}
      (h : IsMapSoFar content order key_reads value_reads key_is_read value_is_read same (take n vs) items)
      (found : map_elements d ≡ Ok (map content vs)) {e : JsonError} where
    -- an element that has a fault or meets an earlier one
    first_fault_at : (element_fault key_reads value_reads n (content v) ≡ Some e) ⊎
        (MeetsEarlier order key_reads value_reads key_is_read value_is_read n (content v) h.elements
        × (e ≡ Meets n)) → IsMapFault order key_reads value_reads key_is_read value_is_read d e
    first_fault_at fault =
        subst (λ es. IsFaultOf order key_reads value_reads key_is_read value_is_read es e)
        (sym found) (record {
          front = map content (take n vs);
          d = content v;
          rest = map content (drop (n + 1) vs);
          earlier = h.elements;
          split = parted vs n v within at h;
          fine = are_read h;
          fault = rw (place vs n v within at h) fault;
        })

    -- the result of a call that ends with this error
    module _ {A : Type 0} (result : Result A JsonError) (is : result ≡ Err e) where
      abbrev IsToldOf : JsonError → Type 0
      IsToldOf f =
          (f ≡ Memory)
          ⊎ IsMapFault order key_reads value_reads key_is_read value_is_read d f

      told_of : IsToldOf e → IfErr result IsToldOf
      told_of told = subst (λ r. IfErr r IsToldOf) (sym is) told

      pub map_fails : (e ≡ Memory) ⊎ (element_fault key_reads value_reads n (content v) ≡ Some e)
          → IfErr result IsToldOf
      map_fails (inl memory) = told_of (inl memory)
      map_fails (inr own) = told_of (inr (first_fault_at (inl own)))

      pub map_meets : (x : Item (AnyRange K) V)
          → element_fault key_reads value_reads n (content v) ≡ None
          → IsElementRead key_is_read value_is_read (content v) x → IsKeyRange order x.key
          → (e ≡ Memory) ⊎
          ((e ≡ Meets n) × (¬ IsEmptyRange order x.key) × MeetsSome order items x.key)
          → IfErr result IsToldOf
      map_meets x fine is_read known (inl memory) = told_of (inl memory)
      map_meets x fine is_read known (inr met) =
          let one = (h.bound.meets x.key known met.1).0 met.2 in
          told_of (inr (first_fault_at (inr ((fine, (x, is_read, known, one)), met.0))))
