-- The parts of two ranges: together the keys of both, in order.
use Rattle.std.proofs.Common.{◌≡◌, refl, ◌↔◌, true, false, Bool, Option, Some, None, ◌⊎◌, inl, inr, if◌then◌else◌, arith, rules}
use Rattle.std.specs.Option.{option_map, option_or}
use Rattle.std.specs.declared.ops.Bound.{Bound}
use Rattle.range_keys.specs.Order.{KeyOrder, IsLawful, Below}
use Rattle.range_keys.specs.Position.{start_position, end_position, position_cmp}
use Rattle.range_keys.specs.PositionOrder.{position_total}
use Rattle.range_keys.specs.declared.inner.position.Position.{Position}
use Rattle.range_keys.specs.declared.inner.position.Position.TheVariants.{Beside}
use Rattle.range_keys.specs.declared.inner.position.Side.TheVariants.{At}
use Rattle.range_keys.proofs.Orderings.{less_unless_equal}
use Rattle.range_algebra.specs.declared.any.AnyRange.{AnyRange}
use Rattle.range_algebra.specs.declared.range.parts.ProductArg.{ProductArg}
use Rattle.range_algebra.specs.declared.range.parts.ProductArg.TheVariants.{Subject, Object}
use Rattle.range_algebra.specs.Intervals.{Le, Lt}
use Rattle.range_algebra.specs.Orders.{eq_le, lt_not_le, lt_le_trans, le_lt_trans, lt_trans}
use Rattle.range_algebra.specs.Range.{StartHolds, EndHolds, Holds, IsBoundOfKey, IsKeyRange, IsKeyless}
use Rattle.range_algebra.specs.Compared.{flipped}
use Rattle.range_algebra.specs.Combined.{later_start, earlier_end, common}
use Rattle.range_algebra.specs.Parts.{is_empty_range, unless_empty, part_to, part_from, part_before, part_after, product, full_product, RangeHolds, PartHolds, IsOfSubject, IsOfObject, IsProduct}
use Rattle.range_algebra.proofs.Holding.{start_holds, end_holds, empty_is_keyless}
use Rattle.range_algebra.proofs.Positions.{flipped_bound_is_past, flipped_back, flipped_known}
use Rattle.range_algebra.proofs.Commons.{later_over, earlier_under, common_holds}
use Rattle.range_algebra.proofs.Meeting.{before_is}
use Rattle.std.specs.Cmp.{upto}
use Rattle.range_algebra.proofs.Pieces.{start_decided, end_decided, before_holds, after_holds, unless_holds, before_below, after_above}

module _ {K : Type 0} (order : KeyOrder K) (lawful : IsLawful order) where
  abbrev PLt : Position K → Position K → Type 0
  PLt p q = Lt (position_cmp order.cmp) p q

  abbrev PLe : Position K → Position K → Type 0
  PLe p q = Le (position_cmp order.cmp) p q

  -- a start on the other side of an end lies past it, and so an end on the other side of a start
  -- before that
  flipped_past : (b i : Bound K) → flipped b ≡ Some i → IsBoundOfKey order b
      → PLt (end_position order b) (start_position order i)
  flipped_past b i e known =
      (before_is order lawful b i known (flipped_known order lawful b i e known)).1
      (eq_le _ (position_total order.cmp lawful.total) _ _ (flipped_bound_is_past order lawful b i e))

  unless_some : (r x : AnyRange K) (d : Bool) → is_empty_range order r ≡ d
      → (if d then None else Some r) ≡ Some x → is_empty_range order r ≡ false
  unless_some r x d e h = grind arith

  -- there is a part before another range only where the range starts before it
  to_some : (r x : AnyRange K) (b : Bound K) (o : Option (Bound K)) → flipped b ≡ o
      → IsBoundOfKey order b → part_to order r o ≡ Some x
      → PLt (start_position order r.start) (start_position order b)
  to_some r x b None e known h = absurd (cc)
  to_some r x b (Some i) e known h =
      let total = position_total order.cmp lawful.total in
      let cut : AnyRange K = record { start = r.start; end = earlier_end order r.end i } in
      let full = unless_some cut x (is_empty_range order cut) refl h in
      le_lt_trans _ total _ _ _ (upto total _ _ _ full (earlier_under order lawful r.end i).1)
      (flipped_past i b (flipped_back order lawful b i e) (flipped_known order lawful b i e known))

  from_some : (r x : AnyRange K) (b : Bound K) (o : Option (Bound K)) → flipped b ≡ o
      → IsBoundOfKey order b → part_from order r o ≡ Some x
      → PLt (end_position order b) (end_position order r.end)
  from_some r x b None e known h = absurd (cc)
  from_some r x b (Some i) e known h =
      let total = position_total order.cmp lawful.total in
      let cut : AnyRange K = record { start = later_start order r.start i; end = r.end } in
      let full = unless_some cut x (is_empty_range order cut) refl h in
      lt_le_trans _ total _ _ _ (flipped_past b i e known)
      (upto total _ _ _ (later_over order lawful r.start i).1 full)

  -- a key that a start does not hold lies before it
  start_over : (b : Bound K) (k : K) → order.is_key k → (¬ StartHolds order b k)
      → PLt (Beside k At) (start_position order b)
  start_over b k key h = grind arith

  end_under : (b : Bound K) (k : K) → order.is_key k → (¬ EndHolds order b k)
      → PLt (end_position order b) (Beside k At)
  end_under b k key h = grind (arith, end_holds)

  -- not both ranges have a part before the other
  no_before : (r s : AnyRange K) (k : K) → IsKeyRange order s → order.is_key k
      → (o : Option (AnyRange K)) → part_before order r s ≡ o
      → RangeHolds order (part_before order s r) k → o ≡ None
  no_before r s k known key None e h = refl
  no_before r s k known key (Some x) e h =
      let total = position_total order.cmp lawful.total in
      let first = to_some r x s.start (flipped s.start) refl known.0 e in
      let own = (before_holds order lawful s r k key).0 h in
      let over = lt_trans _ total (Beside k At) _ _ (start_over r.start k key own.1) first in
      absurd (lt_not_le _ total (Beside k At) _ over
      ((start_holds order lawful s.start k key).0 own.0.0))

  no_after : (r s : AnyRange K) (k : K) → IsKeyRange order s → order.is_key k
      → (o : Option (AnyRange K)) → part_after order r s ≡ o
      → RangeHolds order (part_after order s r) k → o ≡ None
  no_after r s k known key None e h = refl
  no_after r s k known key (Some x) e h =
      let total = position_total order.cmp lawful.total in
      let last = from_some r x s.end (flipped s.end) refl known.1 e in
      let own = (after_holds order lawful s r k key).0 h in
      let under = lt_trans _ total _ _ (Beside k At) last (end_under r.end k key own.1) in
      absurd (lt_not_le _ total _ (Beside k At) under
      ((end_holds order lawful s.end k key).0 own.0.1))

  -- a part of the first range, or else one of the second
  pub either : Option (AnyRange K) → Option (AnyRange K) → Option (ProductArg K)
  either x y = option_or (option_map Subject x) (option_map Object y)

  either_subject : (x y : Option (AnyRange K)) (k : K) → IsOfSubject order (either x y) k
      → RangeHolds order x k
  unfolding either
  either_subject x y k h = grind arith

  either_object : (x y : Option (AnyRange K)) (k : K) → IsOfObject order (either x y) k
      → RangeHolds order y k
  unfolding either
  either_object x y k h = grind arith

  either_part : (x y : Option (AnyRange K)) (k : K) → PartHolds order (either x y) k
      → RangeHolds order x k ⊎ RangeHolds order y k
  unfolding either
  either_part x y k h = grind arith

  either_first : (x y : Option (AnyRange K)) (k : K) → RangeHolds order x k
      → PartHolds order (either x y) k
  unfolding either
  either_first x y k h = grind arith

  either_second : (x y : Option (AnyRange K)) (k : K) → x ≡ None → RangeHolds order y k
      → PartHolds order (either x y) k
  unfolding either
  either_second x y k e h = grind arith

  excluded_keys_are_below : (s : AnyRange K) (a b : K) → order.is_key a → order.is_key b
      → PLe (start_position order s.start) (end_position order s.end)
      → (¬ StartHolds order s.start a) → (¬ EndHolds order s.end b) → Below order a b
  excluded_keys_are_below s a b key key' full h g =
      let total = position_total order.cmp lawful.total in
      less_unless_equal (order.cmp a b)
      (lt_trans _ total (Beside a At) _ (Beside b At) (start_over s.start a key h)
      (le_lt_trans _ total _ _ (Beside b At) full (end_under s.end b key' g)))

  module _ (r s : AnyRange K) (known : IsKeyRange order r) (others : IsKeyRange order s) where
    in_order : PLe (start_position order r.start) (end_position order r.end)
        → PLe (start_position order s.start) (end_position order s.end) → (a b : K) → order.is_key a
        → order.is_key b
        → RangeHolds order (part_before order r s) a ⊎ RangeHolds order (part_before order s r) a
        → RangeHolds order (part_after order r s) b ⊎ RangeHolds order (part_after order s r) b
        → Below order a b
    in_order full full' a b key key' (inl h) (inl g) =
        excluded_keys_are_below s a b key key' full' ((before_holds order lawful r s a key).0 h).1
        ((after_holds order lawful r s b key').0 g).1
    in_order full full' a b key key' (inl h) (inr g) = search (rules, before_below, after_holds)
    in_order full full' a b key key' (inr h) (inl g) = search (rules, before_below, after_holds)
    in_order full full' a b key key' (inr h) (inr g) =
        excluded_keys_are_below r a b key key' full ((before_holds order lawful s r a key).0 h).1
        ((after_holds order lawful s r b key').0 g).1

    shared_by : (k : K) → order.is_key k → RangeHolds order (unless_empty order (common order r s)) k
        → Holds order r k × Holds order s k
    shared_by k key h =
        (common_holds order lawful r s k key).0
        ((unless_holds order lawful (common order r s) k key).0 h)

    held_of : (k : K) → order.is_key k
        → PartHolds order (either (part_before order r s) (part_before order s r)) k ⊎
        (RangeHolds order (unless_empty order (common order r s)) k ⊎ PartHolds order
        (either (part_after order r s) (part_after order s r)) k)
        → Holds order r k ⊎ Holds order s k
    held_of k key (inl h) = search (rules, either_part, before_holds)
    held_of k key (inr (inl h)) = inl (shared_by k key h).0
    held_of k key (inr (inr h)) = search (rules, either_part, after_holds)

    shared_of : (k : K) → order.is_key k → Holds order r k → Holds order s k
        → RangeHolds order (unless_empty order (common order r s)) k
    shared_of k key h g =
        (unless_holds order lawful (common order r s) k key).1
        ((common_holds order lawful r s k key).1 (h, g))

    of_held : (k : K) → order.is_key k → Holds order r k ⊎ Holds order s k
        → PartHolds order (either (part_before order r s) (part_before order s r)) k ⊎
        (RangeHolds order (unless_empty order (common order r s)) k ⊎ PartHolds order
        (either (part_after order r s) (part_after order s r)) k)
    of_held k key (inl h) = elim (start_decided order lawful s.start k) [
      | inr out ↦
          inl (either_first (part_before order r s) (part_before order s r) k
          ((before_holds order lawful r s k key).1 (h, out)))
      | inl starts ↦ elim (end_decided order lawful s.end k) [
        | inr out ↦
            inr
            (inr (either_first (part_after order r s) (part_after order s r) k
            ((after_holds order lawful r s k key).1 (h, out))))
        | inl ends ↦ inr (inl (shared_of k key h (starts, ends)))
      ]
    ]
    of_held k key (inr h) = elim (start_decided order lawful r.start k) [
      | inr out ↦ let held = (before_holds order lawful s r k key).1 (h, out) in
          inl (either_second (part_before order r s) (part_before order s r) k
          (no_before r s k others key (part_before order r s) refl held) held)
      | inl starts ↦ elim (end_decided order lawful r.end k) [
        | inr out ↦ let held = (after_holds order lawful s r k key).1 (h, out) in
            inr
            (inr (either_second (part_after order r s) (part_after order s r) k
            (no_after r s k others key (part_after order r s) refl held) held))
        | inl ends ↦ inr (inl (shared_of k key (starts, ends) h))
      ]
    ]

    full_is : is_empty_range order r ≡ false → is_empty_range order s ≡ false
        → IsProduct order r s (full_product order r s)
    unfolding either
    full_is full full' = record {
      held = λ k key. (held_of k key, of_held k key);
      shared = λ k key. (shared_by k key, λ h. shared_of k key h.0 h.1);
      subjects = λ k key h. elim h [
        | inl g ↦ search (rules, either_subject, before_holds)
        | inr g ↦ search (rules, either_subject, after_holds)
      ];
      objects = λ k key h. elim h [
        | inl g ↦ search (rules, either_object, before_holds)
        | inr g ↦ search (rules, either_object, after_holds)
      ];
      before_shared = λ a b key key' h g.
          let both = shared_by b key' g in
          elim (either_part (part_before order r s) (part_before order s r) a h) [
            | inl own ↦ before_below order lawful r s a b key key' own both.1.0
            | inr own ↦ before_below order lawful s r a b key key' own both.0.0
          ];
      shared_after = λ a b key key' h g.
          let both = shared_by a key h in
          elim (either_part (part_after order r s) (part_after order s r) b g) [
            | inl own ↦ after_above order lawful r s a b key key' both.1.1 own
            | inr own ↦ after_above order lawful s r a b key key' both.0.1 own
          ];
      before_after =
          λ a b key key' h g. in_order full full' a b key key'
          (either_part (part_before order r s) (part_before order s r) a h)
          (either_part (part_after order r s) (part_after order s r) b g);
    }

    empty_range_is_keyless : (x : AnyRange K) → is_empty_range order x ≡ true → IsKeyless order x
    empty_range_is_keyless x e = grind (arith, empty_is_keyless)

    object_part : (o : Option (AnyRange K)) (k : K) → PartHolds order (option_map Object o) k
        ↔ RangeHolds order o k
    object_part o k = grind arith

    object_subject : (o : Option (AnyRange K)) (k : K) → IsOfSubject order (option_map Object o) k
        → ⊥
    object_subject o k h = grind arith

    object_object : (o : Option (AnyRange K)) (k : K) → IsOfObject order (option_map Object o) k
        → RangeHolds order o k
    object_object o k h = grind arith

    first_empty : is_empty_range order r ≡ true
        → IsProduct order r s (record
        { before = None; intersection = None; after = option_map Object (unless_empty order s) })
    first_empty e = grind (arith, empty_range_is_keyless, object_part, unless_holds, object_subject, object_object)

    second_empty : is_empty_range order s ≡ true
        → IsProduct order r s (record
        { before = None; intersection = None; after = Some (Subject r) })
    second_empty e = grind (arith, empty_range_is_keyless)

    product_by : (d e : Bool) → is_empty_range order r ≡ d → is_empty_range order s ≡ e
        → IsProduct order r s (if d then record {
          before = None;
          intersection = None;
          after = option_map Object (unless_empty order s);
        }
        else (if e then record { before = None; intersection = None; after = Some (Subject r) }
        else full_product order r s))
    product_by d e f g = grind (arith, first_empty, second_empty, full_is)

    pub product_is : IsProduct order r s (product order r s)
    product_is = product_by (is_empty_range order r) (is_empty_range order s) refl refl
