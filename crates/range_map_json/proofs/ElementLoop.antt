-- What is read of a list of JSON values while a loop goes over it, and what is stored meanwhile.
use Rattle.std.specs.Cmp.{IsEquivalence}
use Rattle.std.specs.List.{AllByRecursion, AllZip}
use Rattle.std.proofs.Common.{◌≡◌, refl, sym, ap, subst, ◌∙◌, ℕ, ◌+◌, ◌<◌, ◌≤◌, List, [], ◌∷◌, ◌++◌, map, take, drop, length, get_or, Bool, Option, Some, None, arith}
use Rattle.std.proofs.lemmas.List.{map-append, take_more, take_all, length-take-le}
use Rattle.serde_json.specs.Data.{Data}
use Rattle.range_keys.specs.Order.{KeyOrder, IsLawful}
use Rattle.range_algebra.specs.declared.any.AnyRange.{AnyRange}
use Rattle.range_algebra.specs.Range.{IsEmptyRange, IsKeyRange}
use Rattle.range_algebra.proofs.Lists.{every_more, parts_at}
use Rattle.range_store.specs.declared.storage.Item.{Item}
use Rattle.range_runs.specs.Frames.{IsInsertionFrame}
use Rattle.range_runs.specs.Stored.{IsStored}
use Rattle.range_json.specs.Faults.{first_fault}
use Rattle.range_json.specs.declared.error.JsonError.{JsonError}
use Rattle.range_json.proofs.Keeping.{of_last, stored_before, stands_last}
use Rattle.range_json.proofs.Reading.{fault_first, no_fault_more, read_more, same_length}

module _ {K V X T : Type 0} (content : T → Data) (order : KeyOrder K) (same : V → V → Bool)
    (listed : List X → List (Item (AnyRange K) V)) (item : X → Item (AnyRange K) V)
    (fault : ℕ → Data → Option JsonError) (IsRead : Data → X → Type 0)
    (AreBound : List (Item (AnyRange K) V) → List X → Type 0) where
  -- the values have no fault, and the list binds what is read of them
  pub record IsReadSoFar (vs : List T) (items : List (Item (AnyRange K) V)) : Type 0 where
    pub elements : List X
    pub sound : first_fault fault 0 (map content vs) ≡ None
    pub read : AllZip IsRead (map content vs) elements
    pub known : AllByRecursion (λ x. IsKeyRange order (item x).key) elements
    pub bound : AreBound items elements
    pub form : IsStored order same items
    pub kept : IsStored order same (listed elements) → items ≡ listed elements

module _ {K V X T : Type 0} {content : T → Data} {order : KeyOrder K} {same : V → V → Bool}
    {listed : List X → List (Item (AnyRange K) V)} {item : X → Item (AnyRange K) V}
    {fault : ℕ → Data → Option JsonError} {IsRead : Data → X → Type 0}
    {AreBound : List (Item (AnyRange K) V) → List X → Type 0} where
  pub reading_begun : {items : List (Item (AnyRange K) V)} → items ≡ [] → listed [] ≡ []
      → AreBound [] [] → IsReadSoFar content order same listed item fault IsRead AreBound [] items
  reading_begun none empty bound = subst (IsReadSoFar content order same listed item fault IsRead AreBound []) (sym none) (record {
    elements = [];
    sound = refl;
    read = tt;
    known = tt;
    bound = bound;
    form = record { known = tt; nonempty = tt; rising = tt };
    kept = λ _. sym empty;
  })

  pub reading_ended : (vs : List T) (n : ℕ) {items : List (Item (AnyRange K) V)}
      → length vs ≤ n → IsReadSoFar content order same listed item fault IsRead AreBound (take n vs) items → IsReadSoFar content order same listed item fault IsRead AreBound vs items
  reading_ended vs n {items} ended so_far =
      subst (λ ws. IsReadSoFar content order same listed item fault IsRead AreBound ws items) (take_all n vs ended) so_far

  module _ (vs : List T) (n : ℕ) (v : T) (within : n < length vs) (at : v ≡ get_or vs n v)
      {items : List (Item (AnyRange K) V)} (so_far : IsReadSoFar content order same listed item fault IsRead AreBound (take n vs) items) where
    pub place : length (map content (take n vs)) ≡ n
    place = same_length content (take n vs) ∙ length-take-le n vs (omega (arith, within))

    pub parted : map content vs ≡ map content (take n vs) ++ content v ∷ map content (drop (n + 1) vs)
    parted =
        ap (map content) (parts_at vs n v within)
        ∙ map-append content (take n vs) (get_or vs n v ∷ drop (n + 1) vs)
        ∙ ap (λ w. map content (take n vs) ++ content w ∷ map content (drop (n + 1) vs)) (sym at)

    pub one_fails : {e : JsonError} → fault n (content v) ≡ Some e
        → first_fault fault 0 (map content vs) ≡ Some e
    one_fails {e} own =
        rw parted (fault_first fault (map content (take n vs)) (content v) (map content (drop (n + 1) vs)) e
        so_far.sound (rw place own))

    pub one_read : (lawful : IsLawful order) (equal : IsEquivalence same)
        {new : List (Item (AnyRange K) V)} (x : X)
        → listed (so_far.elements ++ x ∷ []) ≡ listed so_far.elements ++ item x ∷ []
        → fault n (content v) ≡ None → IsRead (content v) x → IsKeyRange order (item x).key
        → ((¬ IsEmptyRange order (item x).key)
        → IsInsertionFrame order same items new (item x).key (item x).value)
        → IsStored order same new → AreBound new (so_far.elements ++ x ∷ [])
        → IsReadSoFar content order same listed item fault IsRead AreBound (take (n + 1) vs) new
    one_read lawful equal {new} x last own is_read known frame form bound =
        let done = map content (take n vs) in
        let more : map content (take (n + 1) vs) ≡ done ++ content v ∷ [] =
        ap (map content) (take_more vs n v within) ∙ map-append content (take n vs) (get_or vs n v ∷ [])
        ∙ ap (λ w. done ++ content w ∷ []) (sym at) in record {
          elements = so_far.elements ++ x ∷ [];
          sound = rw more (no_fault_more fault done (content v) so_far.sound (rw place own));
          read = rw more (read_more IsRead done so_far.elements (content v) x so_far.read is_read);
          known = every_more (λ y. IsKeyRange order (item y).key) so_far.elements x so_far.known known;
          bound = bound;
          form = form;
          kept = λ stored.
              let front = listed so_far.elements in
              let whole = subst (IsStored order same) last stored in
              let full = of_last (λ i. ¬ IsEmptyRange order i.key) front (item x) whole.nonempty in
              let was = so_far.kept (stored_before order lawful same equal front (item x) whole) in
              stands_last order lawful same equal front new (item x) whole form
              (subst (λ is. IsInsertionFrame order same is new (item x).key (item x).value) was
              (frame full)) ∙ sym last;
        }
