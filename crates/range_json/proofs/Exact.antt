-- A map that is read has no fault, where a JSON value is read as equal keys.
use Rattle.std.proofs.Common.{◌≡◌, refl, sym, ap, subst, ◌∙◌, inl, inr, List, [], ◌∷◌, ◌++◌, Bool, Option, Some, None, arith}
use Rattle.std.specs.Cmp.{alike_right}
use Rattle.std.specs.List.{AllZip}
use Rattle.std.specs.declared.cmp.Ordering.TheVariants.{Equal}
use Rattle.std.specs.declared.ops.Bound.{Bound}
use Rattle.std.specs.declared.ops.Bound.TheVariants.{Included, Excluded, Unbounded}
use Rattle.std.proofs.lemmas.Option.{same_Some, none-some}
use Rattle.serde_json.specs.Data.{Data}
use Rattle.range_keys.specs.Order.{KeyOrder, IsLawful}
use Rattle.range_keys.specs.Position.{start_position, end_position, position_cmp}
use Rattle.range_keys.specs.PositionOrder.{position_total}
use Rattle.range_keys.specs.declared.inner.position.Position.{Position}
use Rattle.range_keys.proofs.Orderings.{both_equal}
use Rattle.range_algebra.specs.declared.any.AnyRange.{AnyRange}
use Rattle.range_algebra.proofs.Lists.{any_right}
use Rattle.range_algebra.specs.Clones.{IsBoundClone, range_clone}
use Rattle.range_algebra.specs.RangeOrder.{range_cmp}
use Rattle.range_store.specs.declared.storage.Item.{Item}
use Rattle.range_json.specs.declared.error.JsonError.{JsonError}
use Rattle.range_json.specs.Faults.{first_fault, ArePartsRead, IsRangeRead}
use Rattle.range_json.specs.MapFaults.{element_fault, HasOneReading, IsElementRead, MeetNonempty, MeetsOne, AreApart, AreRead, IsFirstFault, IsMapRead, IsMapFault}
use Rattle.range_json.proofs.Reading.{fault_first}

-- the place of an element among those that are read
pub record IsReadAt {X : Type 0} (R : Data → X → Type 0) (front : List Data) (d : Data)
    (elements : List X) : Type 0 where
  pub xs : List X
  pub x : X
  pub ys : List X
  pub split : elements ≡ xs ++ x ∷ ys
  pub before : AllZip R front xs
  pub at : R d x

pub read_at : {X : Type 0} (R : Data → X → Type 0) (front : List Data) (d : Data) (rest : List Data)
    (elements : List X) → AllZip R (front ++ d ∷ rest) elements → IsReadAt R front d elements
read_at R [] d rest (y ∷ ys) h =
    record { xs = []; x = y; ys = ys; split = refl; before = tt; at = h.0 }
read_at R (c ∷ front) d rest (y ∷ ys) h =
    let later = read_at R front d rest ys h.1 in
    record {
      xs = y ∷ later.xs;
      x = later.x;
      ys = later.ys;
      split = ap (λ zs. y ∷ zs) later.split;
      before = (h.0, later.before);
      at = later.at;
    }
read_at R front d rest elements h = grind arith

module _ {K : Type 0} (order : KeyOrder K) (lawful : IsLawful order) where
  equal_positions_compare_alike : (p q r s : Position K) → position_cmp order.cmp p q ≡ Equal
      → position_cmp order.cmp r s ≡ Equal → position_cmp order.cmp p r ≡ position_cmp order.cmp q s
  equal_positions_compare_alike p q r s e f =
      let total = position_total order.cmp lawful.total in
      total.congr p q r e ∙ alike_right total r s q f

  starts_same : (r s : AnyRange K) → range_cmp order r s ≡ Equal
      → position_cmp order.cmp (start_position order r.start) (start_position order s.start) ≡ Equal
  starts_same r s e = grind (arith, both_equal)

  ends_same : (r s : AnyRange K) → range_cmp order r s ≡ Equal
      → position_cmp order.cmp (end_position order r.end) (end_position order s.end) ≡ Equal
  ends_same r s e = grind (arith, both_equal)

  -- equal ranges meet equal ranges
  pub meet_too : (r s q t : AnyRange K) → range_cmp order r q ≡ Equal → range_cmp order s t ≡ Equal
      → MeetNonempty order r s → MeetNonempty order q t
  meet_too r s q t e f h = grind (arith, ends_same, equal_positions_compare_alike, starts_same)

  module _ (is_read : Data → K → Type 0) (one : HasOneReading order is_read) where
    abbrev Alike : K → K → Type 0
    Alike x y = order.cmp x y ≡ Equal

    parts_one : (p : Option (Bound Data)) (b c : Bound K) → ArePartsRead is_read p b
        → ArePartsRead is_read p c → IsBoundClone Alike b c
    parts_one (Some (Included d)) (Included k) (Included l) h g = one d k l h g
    parts_one (Some (Excluded d)) (Excluded k) (Excluded l) h g = one d k l h g
    parts_one (Some Unbounded) Unbounded Unbounded h g = tt
    parts_one p b c h g = grind arith

    pub range_one : (d : Data) (r s : AnyRange K) → IsRangeRead is_read d r
        → IsRangeRead is_read d s
        → range_cmp order r s ≡ Equal
    range_one d r s (ds, e, starts, ends) (es, f, other_starts, other_ends) =
        let same : es ≡ ds = same_Some es ds (sym f ∙ e) in
        range_clone order lawful Alike (λ a b h. h) r s (grind (arith, parts_one))

    module _ {V : Type 0} (value_is_read : Data → V → Type 0) where
      element_one : (d : Data) (x y : Item (AnyRange K) V) → IsElementRead is_read value_is_read d x
          → IsElementRead is_read value_is_read d y → range_cmp order x.key y.key ≡ Equal
      element_one d x y (ds, e, range, value) (es, f, other, other_value) =
          let same : es ≡ ds = same_Some es ds (sym f ∙ e) in
          range_one ds.0 x.key y.key range (subst (λ p. IsRangeRead is_read p.0 y.key) same other)

      one_too : (front : List Data) (xs ys : List (Item (AnyRange K) V)) (r s : AnyRange K)
          → AllZip (IsElementRead is_read value_is_read) front xs
          → AllZip (IsElementRead is_read value_is_read) front ys → range_cmp order r s ≡ Equal
          → MeetsOne order r xs → MeetsOne order s ys
      one_too [] [] ys r s h g e meets = absurd meets
      one_too (d ∷ front) (x ∷ xs) (y ∷ ys) r s h g e meets = elim meets [
        | inl here ↦ inl (meet_too x.key r y.key s (element_one d x y h.0 g.0) e here)
        | inr later ↦ inr (one_too front xs ys r s h.1 g.1 e later)
      ]
      one_too front xs ys r s h g e meets = grind arith

      apart_at : (xs ys : List (Item (AnyRange K) V)) (y : Item (AnyRange K) V)
          → AreApart order (xs ++ y ∷ ys) → ¬ MeetsOne order y.key xs
      apart_at [] ys y h meets = absurd meets
      apart_at (x ∷ xs) ys y h meets = elim meets [
        | inl here ↦
            h.0 (any_right (λ i. MeetNonempty order i.key x.key) xs (y ∷ ys)
            (inl (here.1, here.0, (here.2.1, here.2.0))))
        | inr later ↦ apart_at xs ys y h.1 later
      ]

      module _ (key_reads value_reads : Data → Bool) where
        -- elements that are read have no first fault
        no_first : (ds : List Data) (elements : List (Item (AnyRange K) V)) (f : JsonError)
            → AreRead order key_reads value_reads is_read value_is_read ds elements
            → IsFirstFault order key_reads value_reads is_read value_is_read ds f → ⊥
        no_first ds elements f read first =
            let fault = element_fault key_reads value_reads in
            let sound : first_fault fault 0 (first.front ++ first.d ∷ first.rest) ≡ None =
            subst (λ es. first_fault fault 0 es ≡ None) first.split read.sound in
            let place =
            read_at (IsElementRead is_read value_is_read) first.front first.d first.rest
            elements (subst (λ es. AllZip (IsElementRead is_read value_is_read) es elements)
            first.split read.read) in
            elim first.fault [
              | inl own ↦
                  none-some f (sym sound
                  ∙ fault_first fault first.front first.d first.rest f first.fine.sound own)
              | inr met ↦
                  let x = met.0.1.0 in
                  apart_at place.xs place.ys place.x (subst (AreApart order) place.split read.apart)
                  (one_too first.front first.earlier place.xs x.key place.x.key first.fine.read
                  place.before (element_one first.d x place.x met.0.1.1 place.at) met.0.1.3)
            ]

        pub no_fault : (same : V → V → Bool) (d : Data) (items : List (Item (AnyRange K) V))
            (f : JsonError)
            → IsMapRead order key_reads value_reads is_read value_is_read same d items
            → IsMapFault order key_reads value_reads is_read value_is_read d f → ⊥
        no_fault same d items f read fault = grind (arith, no_first)
