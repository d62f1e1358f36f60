-- No shorter list of prefixes of which no two overlap routes as a table does.
use Rattle.std.proofs.Common.{◌≡◌, ℕ, ◌+◌, ◌-◌, ◌^◌, ◌≤◌, ◌<◌, ◌⊎◌, Bool, IsTrue, true, false, List, [], ◌∷◌, ◌++◌, length, length-append, map, Option, Some, None, inl, inr, refl, ap, sym, subst, ◌∙◌, arith}
use Rattle.std.proofs.lemmas.List.{length-map}
use Rattle.std.specs.Cmp.{IsEquivalence}
use Rattle.std.specs.List.{AllByRecursion}
use Rattle.std.specs.Option.{option_map}
use Rattle.std.proofs.lemmas.Bool.{cases_lt}
use Rattle.std.proofs.Math.Pow.{pow_pos}
use Rattle.btree_range_map.specs.AnyRange.{AnyRange}
use Rattle.btree_range_map.specs.Bindings.{Binds, BindsTo, IsBound}
use Rattle.btree_range_map.specs.Counted.{counted_lawful}
use Rattle.btree_range_map.specs.HeldKeys.{held_or_not}
use Rattle.btree_range_map.specs.Intervals.{Any}
use Rattle.btree_range_map.specs.Item.{Item}
use Rattle.btree_range_map.specs.Order.{KeyOrder}
use Rattle.btree_range_map.specs.Range.{Holds}
use Rattle.address_keys.specs.Families.{IsFamily}
use Rattle.address_prefixes.specs.Prefixes.{HasAddress, IsPrefix, SomeHasAddress}
use Rattle.address_prefixes.specs.declared.prefix.Prefix.{Prefix}
use Rattle.address_prefixes.proofs.Fewest.{Fits, fewest}
use Rattle.address_sets.proofs.Sets.{below_number, first_held, from_of, holds_is, last_held, past_of, top_by}
use Rattle.address_tables.specs.Tables.{AreApart, ArePrefixes, AreSame, IsShortestApart, IsTableOf, longest}
use Rattle.address_tables.specs.Tiled.{range_tiles, tiled, valued}
use Rattle.address_tables.specs.declared.entries.Entry.{Entry}
use Rattle.address_tables.proofs.Apart.{IsOneOf, one_of_all, routed, some_has}
use Rattle.address_tables.proofs.Items.{Coarse, Known, StartFrom, binds_is_bound, coarse_rest, have_spans, next_from, starts_from_zero}
use Rattle.address_tables.proofs.Tiled.{tiles_are}

module _ {A V : Type 0} {order : KeyOrder A} {number : A → ℕ} {at : ℕ → A} {width : ℕ}
    (family : IsFamily order number at width) (same_value : V → V → Bool) where
  abbrev Items : Type 0
  Items = List (Item (AnyRange A) V)

  -- two ranges of which one starts where the other ends have other values
  joined : (i j : Item (AnyRange A) V) (items : Items) → Known family same_value (i ∷ j ∷ items)
      → Coarse family same_value (i ∷ j ∷ items) → from_of family j.key ≡ past_of family i.key
      → ¬ IsTrue (same_value i.value j.value)
  joined i j items known coarse meet same =
      let last = last_held family i.key known.0 coarse.keyed.0 in
      let first = first_held family j.key known.1.0 coarse.keyed.1.0 in
      coarse.parted.0 (
        coarse.rising.0,
        λ k key between.
            let low = below_number family last.0 k (between.0 last.0 last.1 last.2) in
            let high = below_number family k first.0 (between.1 first.0 first.1 first.2) in
            omega (arith, low, high, last.3, first.3, meet),
      ) same

  -- what is bound has the number of the first range or a greater one
  bound_from : (items : Items) → Known family same_value items → Coarse family same_value items
      → (from : ℕ) → StartFrom family same_value from items → (a : A) → order.is_key a
      → IsBound order items a → from ≤ number a
  bound_from [] known coarse from starts a key none = absurd none
  bound_from (i ∷ items) known coarse from starts a key (inl here) =
      let lies = ((holds_is family i.key a key).0 here).0 in omega (arith, lies, starts)
  bound_from (i ∷ items) known coarse from starts a key (inr later) =
      let some = (have_spans family same_value (i ∷ items) known coarse).0.0 in
      let after = bound_from items known.1 (coarse_rest family same_value i items coarse)
      (past_of family i.key) (next_from family same_value i items known coarse) a key later in
      omega (arith, some, after, starts)

  -- a prefix lies in a range
  abbrev LiesIn : Prefix A → Item (AnyRange A) V → Type 0
  LiesIn p i = (from_of family i.key ≤ number p.network) × (number p.last < past_of family i.key)

  inside_from : (items : Items) → Known family same_value items → Coarse family same_value items
      → (from : ℕ) → StartFrom family same_value from items → (p : Prefix A) → Any (LiesIn p) items
      → from ≤ number p.network
  inside_from [] known coarse from starts p none = absurd none
  inside_from (i ∷ items) known coarse from starts p (inl here) =
      let low = here.0 in omega (arith, low, starts)
  inside_from (i ∷ items) known coarse from starts p (inr later) =
      let some = (have_spans family same_value (i ∷ items) known coarse).0.0 in
      let after = inside_from items known.1 (coarse_rest family same_value i items coarse)
      (past_of family i.key) (next_from family same_value i items known coarse) p later in
      omega (arith, some, after, starts)

  module _ (laws : IsEquivalence same_value) where
    same_both : (u v w : V) → IsTrue (same_value u v) → IsTrue (same_value w v)
        → IsTrue (same_value u w)
    same_both u v w uv wv = laws.congr u v w uv ∙ laws.symm v w ∙ wv

    -- a range that starts where another ends has another value
    next_other : (i : Item (AnyRange A) V) (items : Items) → Known family same_value (i ∷ items)
        → Coarse family same_value (i ∷ items) → (a : A) → order.is_key a → (v : V)
        → number a ≡ past_of family i.key → IsTrue (same_value i.value v)
        → ¬ BindsTo order same_value items a v
    next_other i [] known coarse a key v is same none = none
    next_other i (j ∷ items) known coarse a key v is same (inl here) =
        let low = ((holds_is family j.key a key).0 here.0).0 in
        let next : past_of family i.key ≤ from_of family j.key =
        next_from family same_value i (j ∷ items) known coarse in
        joined i j items known coarse (omega (arith, low, next, is))
        (same_both i.value v j.value same here.1)
    next_other i (j ∷ items) known coarse a key v is same (inr later) =
        let rest = coarse_rest family same_value i (j ∷ items) coarse in
        let next : past_of family i.key ≤ from_of family j.key =
        next_from family same_value i (j ∷ items) known coarse in
        let some = (have_spans family same_value (j ∷ items) known.1 rest).0.0 in
        let after = bound_from items known.1.1 (coarse_rest family same_value j items rest)
        (past_of family j.key) (next_from family same_value j items known.1 rest) a key
        (binds_is_bound family same_value items a v later) in
        omega (arith, next, some, after, is)

    -- the addresses of the prefix are bound to a value
    abbrev AreBoundTo : Items → Prefix A → V → Type 0
    AreBoundTo items p v = (a : A) → order.is_key a → HasAddress number a p
        → BindsTo order same_value items a v

    -- where it holds the first address of a prefix whose addresses have one value, it holds all
    inside_at : (i : Item (AnyRange A) V) (items : Items) → Known family same_value (i ∷ items)
        → Coarse family same_value (i ∷ items) → (p : Prefix A) → IsPrefix number width p → (v : V)
        → AreBoundTo (i ∷ items) p v → Holds order i.key p.network
        → IsTrue (same_value i.value v) → order.is_key p.network → LiesIn p i
    inside_at i items known coarse p is v binds here same key =
        let lies = (holds_is family i.key p.network key).0 here in
        let low = lies.0 in
        let under = lies.1 in
        let fits = is.fits in
        elim (cases_lt (number p.last) (past_of family i.key)) [
          | inl within ↦ (low, within)
          | inr beyond ↦
              let small : past_of family i.key < 2 ^ width = omega (arith, beyond, fits) in
              let e = family.at_number (past_of family i.key) small in
              let is_key = family.is_address (at (past_of family i.key)) (omega (arith, e, small)) in
              elim (binds (at (past_of family i.key)) is_key
              (omega (arith, e, under), omega (arith, e, beyond))) [
                | inl held ↦
                    let high = ((holds_is family i.key (at (past_of family i.key)) is_key).0
                    held.0).1 in
                    absurd (omega (arith, high, e))
                | inr later ↦ absurd (next_other i items known coarse (at (past_of family i.key))
                    is_key v e same later)
              ]
        ]

    -- a prefix whose addresses have one value lies in one range
    inside : (items : Items) → Known family same_value items → Coarse family same_value items
        → (p : Prefix A) → IsPrefix number width p → (v : V) → AreBoundTo items p v
        → Any (LiesIn p) items
    inside [] known coarse p is v binds =
        let ends = is.ends in
        let some = pow_pos (width - p.length) in
        let fits = is.fits in
        absurd (binds p.network (family.is_address p.network (omega arith))
        (omega arith, omega arith))
    inside (i ∷ items) known coarse p is v binds =
        let ends = is.ends in
        let some = pow_pos (width - p.length) in
        let fits = is.fits in
        let key = family.is_address p.network (omega (arith, ends, some, fits)) in
        elim (binds p.network key (omega arith, omega (arith, ends, some))) [
          | inl here ↦
              inl (inside_at i items known coarse p is v binds here.0 here.1 key)
          | inr later ↦
              let rest = coarse_rest family same_value i items coarse in
              let from = bound_from items known.1 rest (past_of family i.key)
              (next_from family same_value i items known coarse) p.network key
              (binds_is_bound family same_value items p.network v later) in
              inr (inside items known.1 rest p is v (λ a is_key has.
              elim (binds a is_key has) [
                | inl held ↦
                    let high = ((holds_is family i.key a is_key).0 held.0).1 in
                    let low = has.0 in
                    absurd (omega (arith, from, high, low))
                | inr there ↦ there
              ]))
        ]

  bound_or_not : (items : Items) (a : A) → IsBound order items a ⊎ (¬ IsBound order items a)
  bound_or_not [] a = inr (λ none. none)
  bound_or_not (i ∷ items) a = elim (held_or_not order (counted_lawful family.counted) i.key a) [
    | inl here ↦ inl (inl here)
    | inr not ↦ elim (bound_or_not items a) [
      | inl later ↦ inl (inr later)
      | inr free ↦ inr (λ bound. elim bound [ inl here ↦ not here | inr later ↦ free later ])
    ]
  ]

  -- a prefix that lies before a border, or in one of the ranges
  record Sits (border : ℕ) (items : Items) (q : Prefix A) : Type 0 where
    prefix : IsPrefix number width q
    side : (number q.last < border) ⊎ Any (LiesIn q) items

  sorted : (border : ℕ) (i : Item (AnyRange A) V) (items : Items)
      → Known family same_value (i ∷ items) → Coarse family same_value (i ∷ items)
      → border ≤ from_of family i.key → (q : Prefix A) → Sits border (i ∷ items) q
      → Fits family (from_of family i.key) (past_of family i.key) q
      × Sits (past_of family i.key) items q
  sorted border i items known coarse starts q sits =
      let some = (have_spans family same_value (i ∷ items) known coarse).0.0 in
      elim (sits.side) [
        | inl before ↦ (
          record { prefix = sits.prefix; side = inl (omega (arith, before, starts)) },
          record { prefix = sits.prefix; side = inl (omega (arith, before, starts, some)) },
        )
        | inr within ↦ elim within [
          | inl here ↦ (
            record { prefix = sits.prefix; side = inr (inl here) },
            record { prefix = sits.prefix; side = inl here.1 },
          )
          | inr later ↦ (
            record {
              prefix = sits.prefix;
              side = inr (inr (inside_from items known.1
                  (coarse_rest family same_value i items coarse) (past_of family i.key)
                  (next_from family same_value i items known coarse) q later));
            },
            record { prefix = sits.prefix; side = inr later },
          )
        ]
      ]

  all_sorted : (border : ℕ) (i : Item (AnyRange A) V) (items : Items)
      → Known family same_value (i ∷ items) → Coarse family same_value (i ∷ items)
      → border ≤ from_of family i.key → (qs : List (Prefix A))
      → AllByRecursion (Sits border (i ∷ items)) qs
      → AllByRecursion (λ q. Fits family (from_of family i.key) (past_of family i.key) q
      × Sits (past_of family i.key) items q) qs
  all_sorted border i items known coarse starts [] all = tt
  all_sorted border i items known coarse starts (q ∷ qs) all = (
    sorted border i items known coarse starts q all.0,
    all_sorted border i items known coarse starts qs all.1,
  )

  -- prefixes that lie in ranges and have all their addresses are no fewer
  no_fewer : (items : Items) → Known family same_value items → Coarse family same_value items
      → (border : ℕ) → StartFrom family same_value border items → (qs : List (Prefix A))
      → AllByRecursion (Sits border items) qs
      → ((a : A) → order.is_key a → IsBound order items a → SomeHasAddress number qs a)
      → length (tiled number at width items) ≤ length qs
  no_fewer [] known coarse border starts qs sit covers = omega arith
  no_fewer (i ∷ items) known coarse border starts qs sit covers =
      let has = (have_spans family same_value (i ∷ items) known coarse).0 in
      let top = has.1 in
      let rest = coarse_rest family same_value i items coarse in
      let next = next_from family same_value i items known coarse in
      let ps : List (Prefix A) = range_tiles number at width i.key in
      let left = fewest family (Sits (past_of family i.key) items) (past_of family i.key)
      (from_of family i.key) ps (tiles_are family same_value i.key has) qs
      (all_sorted border i items known coarse starts qs sit)
      (λ a from to.
      let key = family.is_address a (omega (arith, to, top)) in
      covers a key (inl ((holds_is family i.key a key).1 (from, to)))) in
      let again = no_fewer items known.1 rest (past_of family i.key) next left.rest left.others
      (λ a key bound. left.still a
      (bound_from items known.1 rest (past_of family i.key) next a key bound)
      (covers a key (inr bound))) in
      let fewer = left.fewer in
      let all = length-append (valued i.value ps) (tiled number at width items) in
      let mapped : length (valued i.value ps) ≡ length ps = length-map ps _ in
      omega (arith, again, fewer, all, mapped)

  module _ (laws : IsEquivalence same_value) (items : Items)
      (known : Known family same_value items) (coarse : Coarse family same_value items)
      (others : List (Entry A V)) (whole : ArePrefixes number width others)
      (apart : AreApart number others)
      (table : IsTableOf order number same_value None items others) where
    own_value : (e : Entry A V) → IsOneOf e others → (a : A) → order.is_key a
        → HasAddress number a e.prefix → BindsTo order same_value items a e.value
    own_value e one a key has =
        let is = routed number others apart e one a has in
        let says = table a key in
        elim (bound_or_not items a) [
          | inl bound ↦ subst (λ x. Binds order same_value items a (option_map (λ e. e.value) x)) is
              (says.bound bound)
          | inr free ↦ absurd (subst (λ x. AreSame order same_value None
              (option_map (λ e. e.value) x)) is (says.free free))
        ]

    all_sit : (t : List (Entry A V)) → ((e : Entry A V) → IsOneOf e t → IsOneOf e others)
        → AllByRecursion (Sits 0 items) (map (λ e. e.prefix) t)
    all_sit [] each = tt
    all_sit (e ∷ t) each =
        let one = each e (inl refl) in
        let is = one_of_all (λ d. IsPrefix number width d.prefix) e others whole one in (
          record {
            prefix = is;
            side = inr (inside laws items known coarse e.prefix is e.value (own_value e one));
          },
          all_sit t (λ d later. each d (inr later)),
        )

    covered : (a : A) → order.is_key a → IsBound order items a
        → SomeHasAddress number (map (λ e. e.prefix) others) a
    covered a key bound =
        some_has number others a (λ none.
        subst (λ x. Binds order same_value items a (option_map (λ e. e.value) x)) none
        ((table a key).bound bound) bound)

    no_shorter : length (tiled number at width items) ≤ length others
    no_shorter =
        let few = no_fewer items known coarse 0 (starts_from_zero family same_value items)
        (map (λ e. e.prefix) others) (all_sit others (λ e is. is)) covered in
        let mapped = length-map others (λ e. e.prefix) in
        omega (arith, few, mapped)

  pub shortest_apart : (laws : IsEquivalence same_value) (items : Items)
      → Known family same_value items → Coarse family same_value items
      → IsShortestApart order number same_value None items width (tiled number at width items)
  shortest_apart laws items known coarse =
      λ others whole apart table. no_shorter laws items known coarse others whole apart table
