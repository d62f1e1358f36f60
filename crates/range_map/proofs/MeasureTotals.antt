-- The measures of ranges in order, added up from the front.
use Rattle.std.proofs.Common.{◌≡◌, ℕ, ◌+◌, ◌<◌, ◌^◌, ◌⊎◌, ◌↔◌, refl, sym, ap, ◌∙◌, arith, Option, Some, None, Bool, List, [], ◌∷◌, ◌++◌, append_assoc}
use Rattle.range_map.proofs.Common.{common_steps, IsNone, IsSome, IsSomeAnd, Bound, Unbounded, KeyOrder, IsLawful, IsMeasure, AnyRange, Any, Holds, IsEmptyRange, Item, IsBound, item_ranges, IsStored, IsListed, stored_list_is_listed}
use Rattle.range_keys.specs.Counted.{IsCountedMeasure}
use Rattle.range_algebra.specs.Measures.{HasUnknownEnd, closed_by, measure_between, measure_sum, range_measure, list_measure, AreInOrder}
use Rattle.range_algebra.specs.Numbers.{IsNumberOfKeys}
use Rattle.range_algebra.proofs.MeasureSums.{list_measure_fits, list_measure_is_number, first_known, rest_in_order}
use Rattle.range_algebra.proofs.Measuring.{full_measure}
use Rattle.range_algebra.proofs.Numbers.{number_same}
use Rattle.range_bulk.proofs.BoundKeys.{bound_ranges}

zero_sum : (o : Option ℕ) → o ≡ measure_sum (Some 0) o
zero_sum option = grind (arith, common_steps)

sum_assoc : (o p q : Option ℕ) → measure_sum o (measure_sum p q) ≡ measure_sum (measure_sum o p) q
sum_assoc o p q = grind (arith, common_steps)

none_sum : (o p : Option ℕ) → IsNone (measure_sum o p) ↔ (IsNone o ⊎ IsNone p)
none_sum option p = grind (arith, common_steps)

either_iff : {A B C D : Type 0} → A ↔ B → C ↔ D → (A ⊎ C) ↔ (B ⊎ D)
either_iff h k = grind (arith, common_steps)

module _ {K : Type 0} (len : K → ℕ) (distance : K → K → ℕ) where
  none_between : (s e : Bound K) → IsNone (measure_between len distance s e)
      ↔ ((s ≡ Unbounded) ⊎ (e ≡ Unbounded))
  none_between s e = grind (arith, common_steps)

unbounded_told : {K : Type 0} (o : Option K) (b : Bound K) → (closed_by o b ≡ Unbounded)
    ↔ ((b ≡ Unbounded) × (o ≡ None))
unbounded_told o b = grind (arith, common_steps)

module _ {K : Type 0} (order : KeyOrder K) (len : K → ℕ) (distance : K → K → ℕ) where
  measure_append : (xs ys : List (AnyRange K)) → list_measure order len distance (xs ++ ys)
      ≡ measure_sum (list_measure order len distance xs) (list_measure order len distance ys)
  measure_append [] ys = zero_sum (list_measure order len distance ys)
  measure_append (x ∷ xs) ys = grind (arith, common_steps, measure_append xs ys, sum_assoc)

  in_order_front : (xs ys : List (AnyRange K)) → AreInOrder order (xs ++ ys) → AreInOrder order xs
  in_order_front [] ys h = tt
  in_order_front (x ∷ []) list h = grind (arith, common_steps)
  in_order_front (x ∷ z ∷ xs) ys h = (h.0, h.1, h.2, in_order_front (z ∷ xs) ys h.3)

  -- the ranges before the rest measure so much
  pub record IsMeasured (ranges rest : List (AnyRange K)) (total : ℕ) : Type 0 where
    pub done : List (AnyRange K)
    pub split : ranges ≡ done ++ rest
    pub sum : list_measure order len distance done ≡ Some total

module _ {K : Type 0} {order : KeyOrder K} {len : K → ℕ} {distance : K → K → ℕ}
    {ranges rest others : List (AnyRange K)} {r : AnyRange K} {t : ℕ} (came : rest ≡ r ∷ others)
    (h : IsMeasured order len distance ranges rest t) where
  split_here : ranges ≡ h.done ++ r ∷ others
  split_here = h.split ∙ ap (λ left. h.done ++ left) came

  pub measured_more : {n : ℕ} → range_measure order len distance r ≡ Some n
      → IsMeasured order len distance ranges others (t + n)
  measured_more e = record {
    done = h.done ++ r ∷ [];
    split = split_here ∙ sym (append_assoc h.done (r ∷ []) others);
    sum =
        rw (measure_append order len distance h.done (r ∷ []), h.sum, e) (ap Some (omega arith));
  }

  pub measured_untold : range_measure order len distance r ≡ None
      → list_measure order len distance ranges ≡ None
  measured_untold e =
      rw (split_here, measure_append order len distance h.done (r ∷ others), h.sum, e) refl

  pub measured_fits : {n : ℕ} → IsLawful order → IsMeasure order len distance
      → AreInOrder order ranges → range_measure order len distance r ≡ Some n → t + n < 2 ^ 128
  measured_fits {n = n} lawful measured ordered e =
      let more = measured_more e in
      list_measure_fits order lawful len distance measured more.done (t + n)
      (grind (arith, common_steps, in_order_front)) more.sum

module _ {K V : Type 0} (order : KeyOrder K) {m n : K} (least : order.least ≡ Some m)
    (greatest : order.greatest ≡ Some n) where
  none_untold : (items : List (Item (AnyRange K) V)) → Any (λ i. HasUnknownEnd order i.key) items → ⊥
  none_untold [] h = h
  none_untold (i ∷ rest) either = grind (arith, common_steps, none_untold rest)

  -- where both ends are told, each list has a measure
  pub told_some : (items : List (Item (AnyRange K) V)) (o : Option ℕ)
      → (IsNone o → Any (λ i. HasUnknownEnd order i.key) items) → IsSome o
  told_some items option h = grind (arith, common_steps, none_untold)

module _ {K : Type 0} {order : KeyOrder K} (lawful : IsLawful order) (len : K → ℕ)
    (distance : K → K → ℕ) where
  untold_range : (r : AnyRange K) → ¬ IsEmptyRange order r
      → IsNone (range_measure order len distance r) ↔ HasUnknownEnd order r
  untold_range r full =
      let bounds =
      none_between len distance (closed_by order.least r.start)
      (closed_by order.greatest r.end) in
      let ends =
      either_iff (unbounded_told order.least r.start) (unbounded_told order.greatest r.end) in
      rw (full_measure order lawful len distance r full)
      (λ h. ends.0 (bounds.0 h), λ h. bounds.1 (ends.1 h))

  module _ {V : Type 0} where
    -- a list measures nothing where one of its ranges has an untold end
    pub untold_list : (items : List (Item (AnyRange K) V)) → AreInOrder order (item_ranges items)
        → IsNone (list_measure order len distance (item_ranges items))
        ↔ Any (λ i. HasUnknownEnd order i.key) items
    untold_list [] h = (λ e. absurd (cc), λ e. absurd e)
    untold_list (i ∷ rest) h =
        let either =
        either_iff
        (untold_range i.key (first_known order lawful i.key (item_ranges rest) h).1)
        (untold_list rest (rest_in_order order lawful i.key (item_ranges rest) h)) in
        grind (arith, common_steps, none_sum)

    number_bound : (items : List (Item (AnyRange K) V)) (o : Option ℕ)
        → IsSomeAnd o (IsNumberOfKeys order (λ k. Any (λ r. Holds order r k) (item_ranges items)))
        → IsSomeAnd o (IsNumberOfKeys order (IsBound order items))
    number_bound items option h =
        grind (arith, common_steps, number_same, lawful.total, bound_ranges)

    -- over counted keys the measures add up to the number of bound keys
    pub counted_bound : (items : List (Item (AnyRange K) V)) → IsCountedMeasure order len distance
        → AreInOrder order (item_ranges items)
        → IsSomeAnd (list_measure order len distance (item_ranges items))
        (IsNumberOfKeys order (IsBound order items))
    counted_bound items counts h =
        number_bound items (list_measure order len distance (item_ranges items))
        (list_measure_is_number order len distance counts (item_ranges items) h)

module _ {K V : Type 0} {order : KeyOrder K} (lawful : IsLawful order) (same : V → V → Bool) where
  listed_in_order : (items : List (Item (AnyRange K) V)) → IsListed order lawful same items
      → AreInOrder order (item_ranges items)
  listed_in_order [] h = tt
  listed_in_order (i ∷ []) h = (h.0, h.1)
  listed_in_order (i ∷ j ∷ rest) h = (h.0, h.1, h.2, listed_in_order (j ∷ rest) h.4)

  pub stored_in_order : (items : List (Item (AnyRange K) V)) → IsStored order same items
      → AreInOrder order (item_ranges items)
  stored_in_order items h =
      listed_in_order items (stored_list_is_listed order lawful same items h)
