-- What is written is read back as an equal range or map.
use Rattle.std.proofs.Common.{append_assoc, ◌≡◌, refl, sym, ap, ◌∙◌, ◌&&◌, ◌++◌, inl, inr, length, ℕ, List, [], ◌∷◌, map, Bool, true, IsTrue, None, Ok, arith}
use Rattle.std.proofs.lemmas.List.Elements.{All-from_recursion}
use Rattle.std.specs.Cmp.{IsEquivalence}
use Rattle.std.specs.List.{AllZip}
use Rattle.std.specs.Ordering.{is_eq}
use Rattle.std.specs.declared.cmp.Ordering.TheVariants.{Equal}
use Rattle.std.specs.declared.ops.Bound.{Bound}
use Rattle.std.specs.declared.ops.Bound.TheVariants.{Included, Excluded, Unbounded}
use Rattle.std.proofs.lemmas.Option.{same_Some, none-some}
use Rattle.serde_json.specs.Data.{Data}
use Rattle.range_keys.specs.Order.{KeyOrder, IsLawful}
use Rattle.range_algebra.specs.declared.any.AnyRange.{AnyRange}
use Rattle.range_algebra.specs.Clones.{IsBoundClone}
use Rattle.range_algebra.specs.Range.{IsKeyRange}
use Rattle.range_algebra.specs.RangeOrder.{range_cmp}
use Rattle.range_store.specs.declared.storage.Item.{Item}
use Rattle.range_reads.specs.ListOrder.{same_list}
use Rattle.range_runs.specs.Stored.{IsStored}
use Rattle.range_map.proofs.CloneLists.{equal_items_are_copy, copy_stored, item_clone}
use Rattle.range_json.specs.Shapes.{bound_shape, range_shape, pair_shape, map_shape}
use Rattle.range_json.specs.Faults.{key_fault, bound_fault, range_fault, IsBoundRead, IsRangeRead}
use Rattle.range_json.specs.declared.error.JsonError.{JsonError}
use Rattle.range_json.specs.MapFaults.{element_fault, IsElementRead, IsMapRead, IsFirstFault, MeetNonempty}
use Rattle.range_json.specs.Values.{IsBoundValue, IsRangeValue, AreItemValues}
use Rattle.range_json.proofs.Keeping.{apart_from_last, stored_front}
use Rattle.range_algebra.proofs.Lists.{any_none, every_more}
use Rattle.range_runs.specs.Frames.{JoinsOrMeets}
use Rattle.range_json.specs.SetReadBack.{list_back}

zip_last : {X : Type 0} (R : X → X → Type 0) (xs ys : List X) (x y : X) → AllZip R xs ys → R x y
    → AllZip R (xs ++ x ∷ []) (ys ++ y ∷ [])
zip_last R [] [] x y h r = (r, tt)
zip_last R (z ∷ xs) (w ∷ ys) x y h r = (h.0, zip_last R xs ys x y h.1 r)
zip_last R xs ys x y h r = absurd h

module _ {K : Type 0} (order : KeyOrder K) (shape : K → Data) (reads : Data → Bool)
    (is_value : K → Type 0) (is_read : Data → K → Type 0) where
  module _ (written : (x : K) → is_value x → IsTrue (reads (shape x))) where
    key_sound : (i : ℕ) (k : K) → is_value k → key_fault reads i (shape k) ≡ None
    key_sound i k v = rw (written k v) refl

    bound_sound : (i : ℕ) (b : Bound K) → IsBoundValue is_value b
        → bound_fault reads i (bound_shape shape b) ≡ None
    bound_sound i (Included k) v = key_sound i k v
    bound_sound i (Excluded k) v = key_sound i k v
    bound_sound i Unbounded v = refl

    -- a written range has no fault
    pub range_sound : (i : ℕ) (r : AnyRange K) → IsRangeValue is_value r
        → range_fault reads i (range_shape shape r) ≡ None
    range_sound i r v = rw (bound_sound i r.start v.0) (bound_sound i r.end v.1)

  module _ (back : (x y : K) → is_value x → is_read (shape x) y → order.cmp x y ≡ Equal) where
    abbrev Alike : K → K → Type 0
    Alike x y = order.cmp x y ≡ Equal

    bound_back : (b c : Bound K) → IsBoundValue is_value b
        → IsBoundRead is_read (bound_shape shape b) c → IsBoundClone Alike b c
    bound_back (Included k) (Included l) v h = back k l v h
    bound_back (Excluded k) (Excluded l) v h = back k l v h
    bound_back Unbounded Unbounded v h = tt
    bound_back b c v h = h

    -- a written range is read with equal bounds
    pub bounds_back : (r s : AnyRange K) → IsRangeValue is_value r
        → IsRangeRead is_read (range_shape shape r) s
        → IsBoundClone Alike r.start s.start × IsBoundClone Alike r.end s.end
    bounds_back r s v (ds, e, starts, ends) = grind (arith, bound_back, same_Some)

    module _ (lawful : IsLawful order) {V : Type 0} (same : V → V → Bool)
        (equal : IsEquivalence same) where
      abbrev pub Copied : Item (AnyRange K) V → Item (AnyRange K) V → Type 0
      Copied x y = (is_eq (range_cmp order y.key x.key) && same y.value x.value) ≡ true

      pub item_back : (x y : Item (AnyRange K) V) → IsRangeValue is_value x.key
          → IsRangeRead is_read (range_shape shape x.key) y.key → IsTrue (same x.value y.value)
          → Copied x y
      item_back x y v read values =
          item_clone lawful equal Alike (λ a b h. h) (λ a b. IsTrue (same a b))
          (λ a b h. h) x y (bounds_back x.key y.key v read) values

      pub same_copies : (items copy : List (Item (AnyRange K) V)) → AllZip Copied items copy
          → IsTrue (same_list order same copy items)
      same_copies [] [] h = refl
      same_copies (x ∷ xs) (y ∷ ys) h = rw h.0 (same_copies xs ys h.1)
      same_copies items copy h = absurd h

      module _ (value_shape : V → Data) (value_is_value : V → Type 0)
          (value_is_read : Data → V → Type 0)
          (value_back : (x y : V) → value_is_value x → value_is_read (value_shape x) y
          → IsTrue (same x y)) where
        abbrev pair : Item (AnyRange K) V → Data
        pair i = pair_shape (range_shape shape i.key) (value_shape i.value)

        element_back : (x y : Item (AnyRange K) V)
            → IsRangeValue is_value x.key × value_is_value x.value
            → IsElementRead is_read value_is_read (pair x) y → Copied x y
        element_back x y v (ds, e, range, value) = grind (arith, item_back, same_Some)

        elements_back : (items elements : List (Item (AnyRange K) V))
            → AreItemValues is_value value_is_value items
            → AllZip (IsElementRead is_read value_is_read) (map pair items) elements
            → AllZip Copied items elements
        elements_back [] [] v h = tt
        elements_back (x ∷ xs) (y ∷ ys) v h =
            (element_back x y v.0 h.0, elements_back xs ys v.1 h.1)
        elements_back items elements v h = absurd h

        -- a written map is read back as an equal one
        pub map_back : (value_reads : Data → Bool) (items others : List (Item (AnyRange K) V))
            → AreItemValues is_value value_is_value items → IsStored order same items
            → IsMapRead order reads value_reads is_read value_is_read same
            (map_shape shape value_shape items) others → IsTrue (same_list order same others items)
        map_back value_reads items others v stored h =
            let whole = ap Ok (sym (list_back (map pair items))) ∙ h.whole in
            let listed : map pair items ≡ h.ds = cc in
            let copies =
            elements_back items h.elements v
            (rw listed h.read.read) in
            let form =
            copy_stored lawful equal h.elements items
            (equal_items_are_copy lawful equal items h.elements copies)
            (All-from_recursion (λ i. IsKeyRange order i.key) h.elements h.read.known)
            stored in
            rw (h.kept form) (same_copies items h.elements copies)

-- a list of what is made of items, cut at a place, is what is made of the items cut there
record IsCutAt {X : Type 0} (f : X → Data) (items : List X) (front : List Data)
    (d : Data) : Type 0 where
  xs : List X
  x : X
  ys : List X
  split : items ≡ xs ++ x ∷ ys
  before : map f xs ≡ front
  at : f x ≡ d

cut_at : {X : Type 0} (f : X → Data) (items : List X) (front : List Data) (d : Data)
    (rest : List Data) → map f items ≡ front ++ d ∷ rest → IsCutAt f items front d
cut_at f [] [] d rest e = absurd (cc)
cut_at f [] (c ∷ front) d rest e = absurd (cc)
cut_at f (x ∷ items) [] d rest e =
    record { xs = []; x = x; ys = items; split = refl; before = refl; at = cc }
cut_at f (x ∷ items) (c ∷ front) d rest e =
    let tail : map f items ≡ front ++ d ∷ rest = cc in
    let head : f x ≡ c = cc in
    let later = cut_at f items front d rest tail in
    record {
      xs = x ∷ later.xs;
      x = later.x;
      ys = later.ys;
      split = ap (λ is. x ∷ is) later.split;
      before = ap (λ e. e ∷ map f later.xs) head ∙ ap (λ es. c ∷ es) later.before;
      at = later.at;
    }

module _ {K V : Type 0} (order : KeyOrder K) (shape : K → Data) (reads : Data → Bool)
    (is_value : K → Type 0) (is_read : Data → K → Type 0)
    (back : (x y : K) → is_value x → is_read (shape x) y → order.cmp x y ≡ Equal)
    (written : (x : K) → is_value x → IsTrue (reads (shape x))) (lawful : IsLawful order)
    (same : V → V → Bool) (equal : IsEquivalence same) where
  module _ (value_shape : V → Data) (value_reads : Data → Bool) (value_is_value : V → Type 0)
      (value_is_read : Data → V → Type 0)
      (value_back : (x y : V) → value_is_value x → value_is_read (value_shape x) y
      → IsTrue (same x y)) (value_written : (x : V) → value_is_value x
      → IsTrue (value_reads (value_shape x))) where
    abbrev shown : Item (AnyRange K) V → Data
    shown i = pair_shape (range_shape shape i.key) (value_shape i.value)

    element_sound : (i : ℕ) (x : Item (AnyRange K) V)
        → IsRangeValue is_value x.key × value_is_value x.value
        → element_fault reads value_reads i (shown x) ≡ None
    element_sound i x v =
        rw (range_sound order shape reads is_value is_read written i x.key v.0)
        (rw (value_written x.value v.1) refl)

    value_parts : (xs : List (Item (AnyRange K) V)) (x : Item (AnyRange K) V)
        (ys : List (Item (AnyRange K) V)) → AreItemValues is_value value_is_value (xs ++ x ∷ ys)
        → AreItemValues is_value value_is_value xs
        × (IsRangeValue is_value x.key × value_is_value x.value)
    value_parts [] x ys v = (tt, v.0)
    value_parts (y ∷ xs) x ys v = let rest = value_parts xs x ys v.1 in ((v.0, rest.0), rest.1)

    -- a written map has no fault
    pub map_sound : (items : List (Item (AnyRange K) V))
        → AreItemValues is_value value_is_value items → IsStored order same items → (f : JsonError)
        → IsFirstFault order reads value_reads is_read value_is_read (map shown items) f → ⊥
    map_sound items v stored f first =
        let cut = cut_at shown items first.front first.d first.rest first.split in
        let values =
        value_parts cut.xs cut.x cut.ys
        (rw cut.split at v) in
        elim first.fault [
          | inl own ↦
              none-some f (sym (element_sound (length first.front) cut.x values.1)
              ∙ ap (element_fault reads value_reads (length first.front)) cut.at ∙ own)
          | inr met ↦
              let y = met.0.1.0 in
              let front =
              elements_back order shape reads is_value is_read back lawful same equal
              value_shape value_is_value value_is_read value_back cut.xs first.earlier
              values.0
              (rw cut.before first.fine.read) in
              let last =
              element_back order shape reads is_value is_read back lawful same equal
              value_shape value_is_value value_is_read value_back cut.x y values.1
              (rw (← cut.at) at met.0.1.1) in
              let copies =
              zip_last (Copied order shape reads is_value is_read back lawful same equal)
              cut.xs first.earlier cut.x y front last in
              let whole =
              stored_front order lawful same equal (cut.xs ++ cut.x ∷ []) cut.ys
              (rw (append_assoc cut.xs (cut.x ∷ []) cut.ys, ← cut.split) stored) in
              let form =
              copy_stored lawful equal (first.earlier ++ y ∷ [])
              (cut.xs ++ cut.x ∷ []) (equal_items_are_copy lawful equal
              (cut.xs ++ cut.x ∷ []) (first.earlier ++ y ∷ []) copies)
              (All-from_recursion (λ i. IsKeyRange order i.key) (first.earlier ++ y ∷ [])
              (every_more (λ i. IsKeyRange order i.key) first.earlier y first.fine.known
              met.0.1.2)) whole in
              any_none (λ i. MeetNonempty order i.key y.key)
              (λ i. ¬ JoinsOrMeets order same y.key y.value i) first.earlier
              (apart_from_last order lawful same equal first.earlier y form)
              (λ i out meets. out (inl meets.2)) met.0.1.3
        ]
