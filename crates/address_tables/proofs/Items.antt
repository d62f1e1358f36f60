-- The items of a table by numbers: they bind the addresses that the spans have.
use Rattle.std.proofs.Common.{◌≡◌, ℕ, ◌+◌, ◌-◌, ◌^◌, ◌≤◌, ◌<◌, ◌⊎◌, Bool, true, false, IsTrue, ◌&&◌, if◌then◌else◌, nat_le, List, [], ◌∷◌, length, map, Option, Some, None, IfSome, inl, inr, refl, ap, sym, subst, ◌∙◌, arith}
use Rattle.std.specs.Cmp.{IsEquivalence}
use Rattle.std.specs.List.{AllByRecursion, slice_get}
use Rattle.std.specs.Option.{option_map}
use Rattle.std.proofs.lemmas.Bool.{cases_lt}
use Rattle.std.proofs.lemmas.Bool.Decides.{nat_tests}
use Rattle.btree_range_map.specs.AnyRange.{AnyRange}
use Rattle.btree_range_map.specs.Bindings.{Binds, BindsTo, IsBound, IsCoarse, IsSomeOf}
use Rattle.btree_range_map.specs.Counted.{counted_lawful}
use Rattle.btree_range_map.specs.HeldKeys.{held_later_is_above, held_or_not}
use Rattle.btree_range_map.specs.Item.{Item}
use Rattle.btree_range_map.specs.Order.{KeyOrder}
use Rattle.btree_range_map.specs.Range.{Holds, IsKeyRange}
use Rattle.address_keys.specs.Families.{IsFamily}
use Rattle.address_prefixes.specs.Spans.{HasSpan}
use Rattle.address_sets.proofs.Sets.{below_number, first_held, from_of, holds_is, last_held, past_of, some_by, top_by}
use Rattle.shortest_tables.specs.Numbers.{AreAscending, value_at}
use Rattle.shortest_tables.specs.declared.spans.Span.{Span}
use Rattle.address_tables.specs.Numbers.{IsAmong, numbered, place}
use Rattle.address_tables.specs.Tables.{AreSame, IsValueOf}
use Rattle.address_tables.proofs.Places.{at_place, same_place}

module _ {A V : Type 0} {order : KeyOrder A} {number : A → ℕ} {at : ℕ → A} {width : ℕ}
    (family : IsFamily order number at width) (same_value : V → V → Bool) where
  abbrev pub Known : List (Item (AnyRange A) V) → Type 0
  Known items = AllByRecursion (λ i. IsKeyRange order i.key) items

  abbrev pub Coarse : List (Item (AnyRange A) V) → Type 0
  Coarse items = IsCoarse order same_value items

  pub coarse_rest : (i : Item (AnyRange A) V) (items : List (Item (AnyRange A) V))
      → Coarse (i ∷ items) → Coarse items
  coarse_rest i items c =
      record { keyed = c.keyed.1; rising = c.rising.1; parted = c.parted.1 }

  -- each range has an address, and addresses alone
  pub have_spans : (items : List (Item (AnyRange A) V)) → Known items → Coarse items
      → AllByRecursion (λ i. HasSpan number width i.key) items
  have_spans [] known coarse = tt
  have_spans (i ∷ items) known coarse = (
    (some_by family i.key coarse.keyed.0, top_by family i.key.end known.0.1),
    have_spans items known.1 (coarse_rest i items coarse),
  )

  -- no address is in two of the ranges
  not_twice : (i : Item (AnyRange A) V) (items : List (Item (AnyRange A) V)) → Coarse (i ∷ items)
      → (a : A) → order.is_key a → Holds order i.key a → ¬ IsBound order items a
  not_twice i items coarse a key here later =
      let above = below_number family a a (held_later_is_above order
      (counted_lawful family.counted) same_value i items coarse a a key key here later) in
      omega (arith, above)

  -- whether the span of an item has the number of an address
  span_has : (values : List V) (i : Item (AnyRange A) V) → HasSpan number width i.key → (a : A)
      → order.is_key a → Holds order i.key a
      → (nat_le (numbered same_value number width values i).first (number a)
      && nat_le (number a) (numbered same_value number width values i).last) ≡ true
  span_has values i has a key held =
      let lies = (holds_is family i.key a key).0 held in
      let some = has.0 in
      let low : from_of family i.key ≤ number a = omega (arith, lies.0) in
      let high : number a ≤ past_of family i.key - 1 = omega (arith, lies.1) in
      grind (arith, nat_tests)

  span_lacks : (values : List V) (i : Item (AnyRange A) V) → HasSpan number width i.key → (a : A)
      → order.is_key a → ¬ Holds order i.key a
      → (nat_le (numbered same_value number width values i).first (number a)
      && nat_le (number a) (numbered same_value number width values i).last) ≡ false
  span_lacks values i has a key not_held = elim (cases_lt (number a) (from_of family i.key)) [
    | inl low ↦
        let before : nat_le (from_of family i.key) (number a) ≡ false = grind (arith, nat_tests) in
        rw before refl
    | inr not ↦ elim (cases_lt (number a) (past_of family i.key)) [
      | inl under ↦ absurd (not_held ((holds_is family i.key a key).1 (not, under)))
      | inr beyond ↦
          let some = has.0 in
          let last : past_of family i.key - 1 < number a = omega (arith, some, beyond) in
          let from : nat_le (from_of family i.key) (number a) ≡ true = grind (arith, nat_tests) in
          let after : nat_le (number a) (past_of family i.key - 1) ≡ false =
          grind (arith, nat_tests) in
          rw (from, after) refl
    ]
  ]

  abbrev pub Spans : List V → List (Item (AnyRange A) V) → List (Span ℕ)
  Spans values items = map (numbered same_value number width values) items

  pub binds_is_bound : (items : List (Item (AnyRange A) V)) (a : A) (v : V)
      → BindsTo order same_value items a v → IsBound order items a
  binds_is_bound [] a v none = none
  binds_is_bound (i ∷ items) a v (inl here) = inl here.0
  binds_is_bound (i ∷ items) a v (inr later) = inr (binds_is_bound items a v later)

  module _ (values : List V) (otherwise : Option ℕ) where
    -- the value of an address, and its place in the spans
    record HasValue (items : List (Item (AnyRange A) V)) (a : A) (v : V) : Type 0 where
      is_at : value_at otherwise (Spans values items) (number a)
          ≡ Some (place same_value values v)
      only : (w : V) → BindsTo order same_value items a w → same_value v w ≡ true
      all : (w : V) → same_value v w ≡ true → BindsTo order same_value items a w

    abbrev HasNone : List (Item (AnyRange A) V) → A → Type 0
    HasNone items a = (¬ IsBound order items a)
        × (value_at otherwise (Spans values items) (number a) ≡ otherwise)

    first_has : (i : Item (AnyRange A) V) (items : List (Item (AnyRange A) V))
        → HasSpan number width i.key → Coarse (i ∷ items) → (a : A) → order.is_key a
        → Holds order i.key a → HasValue (i ∷ items) a i.value
    first_has i items has coarse a key held =
        record {
          is_at = rw (span_has values i has a key held) refl;
          only = λ w binds. elim binds [
            | inl here ↦ here.1
            | inr later ↦
                absurd (not_twice i items coarse a key held (binds_is_bound items a w later))
          ];
          all = λ w same. inl (held, same);
        }

    later_has : (i : Item (AnyRange A) V) (items : List (Item (AnyRange A) V))
        → HasSpan number width i.key → (a : A) → order.is_key a → ¬ Holds order i.key a
        → (v : V) → HasValue items a v → HasValue (i ∷ items) a v
    later_has i items has a key not_held v there =
        record {
          is_at = rw (span_lacks values i has a key not_held) there.is_at;
          only = λ w binds. elim binds [
            | inl here ↦ absurd (not_held here.0)
            | inr later ↦ there.only w later
          ];
          all = λ w same. inr (there.all w same);
        }

    later_none : (i : Item (AnyRange A) V) (items : List (Item (AnyRange A) V))
        → HasSpan number width i.key → (a : A) → order.is_key a → ¬ Holds order i.key a
        → HasNone items a → HasNone (i ∷ items) a
    later_none i items has a key not_held none = (
      λ bound. elim bound [ inl here ↦ not_held here | inr later ↦ none.0 later ],
      rw (span_lacks values i has a key not_held) none.1,
    )

    says : (items : List (Item (AnyRange A) V)) → Known items → Coarse items → (a : A)
        → order.is_key a → ((v : V) × HasValue items a v) ⊎ HasNone items a
    says [] known coarse a key = inr (λ none. none, refl)
    says (i ∷ items) known coarse a key =
        let has = (have_spans (i ∷ items) known coarse).0 in
        elim (held_or_not order (counted_lawful family.counted) i.key a) [
          | inl held ↦ inl (i.value, first_has i items has coarse a key held)
          | inr not_held ↦ elim (says items known.1 (coarse_rest i items coarse) a key) [
            | inl there ↦ inl (there.0, later_has i items has a key not_held there.0 there.1)
            | inr none ↦ inr (later_none i items has a key not_held none)
          ]
        ]

  module _ (laws : IsEquivalence same_value) (values : List V) (otherwise : Option V) where
    abbrev pub other_place : Option ℕ
    other_place = option_map (λ v. place same_value values v) otherwise

    module _ (items : List (Item (AnyRange A) V)) (known : Known items) (coarse : Coarse items)
        (a : A) (key : order.is_key a) where
      abbrev pub At : Option ℕ
      At = value_at other_place (Spans values items) (number a)

      same_none : (other x : Option V) → AreSame order same_value other x
          → option_map (λ v. place same_value values v) x
          ≡ option_map (λ v. place same_value values v) other
      same_none None None same = refl
      same_none None (Some w) same = absurd same
      same_none (Some v) None same = absurd same
      same_none (Some v) (Some w) same =
          ap (λ n. Some n) (sym (same_place same_value laws values v w same))

      same_some : (v : V) → HasValue values other_place items a v → (x : Option V)
          → Binds order same_value items a x
          → option_map (λ v. place same_value values v) x
          ≡ Some (place same_value values v)
      same_some v has None free =
          absurd (free (binds_is_bound items a v (has.all v (laws.refl v))))
      same_some v has (Some w) binds =
          ap (λ n. Some n) (sym (same_place same_value laws values v w (has.only w binds)))

      -- the place of the value of an address is that in the spans
      pub place_is : (x : Option V) → IsValueOf order same_value otherwise items a x
          → option_map (λ v. place same_value values v) x ≡ At
      place_is x is = elim (says values other_place items known coarse a key) [
        | inl there ↦
            same_some there.0 there.1 x
            (is.bound (binds_is_bound items a there.0 (there.1.all there.0 (laws.refl there.0))))
            ∙ sym there.1.is_at
        | inr none ↦ same_none otherwise x (is.free none.0) ∙ sym none.1
      ]

      some_value : (v : V) → HasValue values other_place items a v → (x : Option V)
          → option_map (λ w. Some w) x ≡ Some (slice_get values (place same_value values v))
          → Binds order same_value items a x
      some_value v has None is = cc
      some_value v has (Some w) is =
          has.all w (laws.symm v w ∙ at_place same_value values v w cc)

      other_value : (other x : Option V)
          → option_map (λ w. Some w) x
          ≡ option_map (λ n. slice_get values n) (option_map (λ v. place same_value values v) other)
          → AreSame order same_value other x
      other_value None None is = tt
      other_value None (Some w) is = cc
      other_value (Some v) None is = cc
      other_value (Some v) (Some w) is =
          laws.symm v w ∙ at_place same_value values v w cc

      -- the value at the place in the spans is that of the address
      pub value_is : (x : Option V)
          → option_map (λ w. Some w) x ≡ option_map (λ n. slice_get values n) At
          → IsValueOf order same_value otherwise items a x
      value_is x is = elim (says values other_place items known coarse a key) [
        | inl there ↦
            record {
              bound = λ bound. some_value there.0 there.1 x
                  (is ∙ ap (λ n. option_map (λ n. slice_get values n) n) there.1.is_at);
              free = λ none. absurd (none (binds_is_bound items a there.0
                  (there.1.all there.0 (laws.refl there.0))));
            }
        | inr none ↦
            record {
              bound = λ bound. absurd (none.0 bound);
              free = λ free. other_value otherwise x
                  (is ∙ ap (λ n. option_map (λ n. slice_get values n) n) none.1);
            }
      ]

  -- the first of the ranges starts there or later
  abbrev pub StartFrom : ℕ → List (Item (AnyRange A) V) → Type 0
  StartFrom from [] = Unit {0}
  StartFrom from (i ∷ items) = from ≤ from_of family i.key

  pub next_from : (i : Item (AnyRange A) V) (items : List (Item (AnyRange A) V))
      → Known (i ∷ items) → Coarse (i ∷ items) → StartFrom (past_of family i.key) items
  next_from i [] known coarse = tt
  next_from i (j ∷ items) known coarse =
      let last = last_held family i.key known.0 coarse.keyed.0 in
      let first = first_held family j.key known.1.0 coarse.keyed.1.0 in
      let below = below_number family last.0 first.0
      (coarse.rising.0 last.0 first.0 last.1 first.1 last.2 first.2) in
      omega (arith, below, last.3, first.3)

  -- the spans of a table ascend
  ascending_from : (values : List V) (items : List (Item (AnyRange A) V)) → Known items
      → Coarse items → AllByRecursion (λ i. IsAmong same_value values i.value) items
      → (from : ℕ) → StartFrom from items
      → AreAscending (length values) from (Spans values items)
  ascending_from values [] known coarse among from starts = tt
  ascending_from values (i ∷ items) known coarse among from starts =
      let some = (have_spans (i ∷ items) known coarse).0.0 in
      let next : past_of family i.key - 1 + 1 ≡ past_of family i.key = omega (arith, some) in (
        starts,
        omega (arith, some),
        among.0,
        rw next (ascending_from values items known.1 (coarse_rest i items coarse) among.1
            (past_of family i.key) (next_from i items known coarse)),
      )

  pub starts_from_zero : (items : List (Item (AnyRange A) V)) → StartFrom 0 items
  starts_from_zero [] = tt
  starts_from_zero (i ∷ items) = omega arith

  pub spans_ascend : (values : List V) (items : List (Item (AnyRange A) V)) → Known items
      → Coarse items → AllByRecursion (λ i. IsAmong same_value values i.value) items
      → AreAscending (length values) 0 (Spans values items)
  spans_ascend values items known coarse among =
      ascending_from values items known coarse among 0 (starts_from_zero items)
