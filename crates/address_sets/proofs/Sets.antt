-- The stored ranges of a set, by the numbers of their addresses.
use Rattle.std.proofs.Common.{◌≡◌, ℕ, ◌+◌, ◌-◌, ◌^◌, ◌≤◌, ◌<◌, ◌↔◌, List, [], ◌∷◌, true, sym, ◌∙◌, arith}
use Rattle.std.specs.Cmp.{ranked, nat_cmp_is}
use Rattle.std.specs.List.{AllByRecursion}
use Rattle.std.specs.declared.cmp.Ordering.TheVariants.{Less}
use Rattle.std.specs.declared.ops.Bound.{Bound}
use Rattle.std.specs.declared.ops.Bound.TheVariants.{Included, Excluded, Unbounded}
use Rattle.std.proofs.lemmas.Bool.{cases_lt}
use Rattle.btree_range_map.specs.AnyRange.{AnyRange}
use Rattle.btree_range_map.specs.Bindings.{IsCoarse}
use Rattle.btree_range_map.specs.Counted.{is_not_above, not_above_is}
use Rattle.btree_range_map.specs.FreeRanges.{item_ranges}
use Rattle.btree_range_map.specs.Item.{Item}
use Rattle.btree_range_map.specs.Order.{Below, KeyOrder, NotAbove}
use Rattle.btree_range_map.specs.Range.{EndHolds, Holds, IsKeyless, IsBoundOfKey, IsKeyRange, StartHolds}
use Rattle.address_keys.specs.Families.{IsFamily}
use Rattle.address_prefixes.specs.Spans.{HasSpan, past_number, start_number}

module _ {A : Type 0} {order : KeyOrder A} {number : A → ℕ} {at : ℕ → A} {width : ℕ}
    (family : IsFamily order number at width) where
  abbrev pub Stored : Type 0
  Stored = Item (AnyRange A) (Unit {0})

  abbrev pub Coarse : List Stored → Type 0
  Coarse items = IsCoarse order (λ _ _. true) items

  pub coarse_rest : (i : Stored) (items : List Stored) → Coarse (i ∷ items) → Coarse items
  coarse_rest i items c = grind arith

  abbrev pub Known : List Stored → Type 0
  Known items = AllByRecursion (λ i. IsKeyRange order i.key) items

  abbrev pub from_of : AnyRange A → ℕ
  from_of r = start_number number r.start

  abbrev pub past_of : AnyRange A → ℕ
  past_of r = past_number number width r.end

  pub below_number : (a b : A) → Below order a b → number a < number b
  below_number a b l = ranked (number a) (number b) Less (sym l ∙ family.by_number a b)

  pub number_below : (a b : A) → number a < number b → Below order a b
  number_below a b h = family.by_number a b ∙ sym (nat_cmp_is (number a) (number b) Less h)

  pub not_above_number : (a b : A) → NotAbove order a b → number a ≤ number b
  not_above_number a b h = grind (arith, not_above_is)

  pub number_not_above : (a b : A) → number a ≤ number b → NotAbove order a b
  number_not_above a b h = grind (arith, is_not_above)

  start_holds : (b : Bound A) (a : A) → StartHolds order b a
      ↔ (start_number number b ≤ number a)
  start_holds (Included x) a = (not_above_number x a, number_not_above x a)
  start_holds (Excluded x) a = grind (arith, below_number, number_below)
  start_holds Unbounded a = (λ h. omega arith, λ h. tt)

  end_holds : (b : Bound A) (a : A) → order.is_key a → EndHolds order b a
      ↔ (number a < past_number number width b)
  end_holds (Included x) a key = grind (arith, not_above_number, number_not_above)
  end_holds (Excluded x) a key = (below_number a x, number_below a x)
  end_holds Unbounded a key = (λ h. family.counted.in_size a key, λ h. tt)

  pub holds_is : (r : AnyRange A) (a : A) → order.is_key a
      → Holds order r a ↔ ((from_of r ≤ number a) × (number a < past_of r))
  holds_is r a key = grind (arith, start_holds, end_holds)

  pub top_by : (b : Bound A) → IsBoundOfKey order b → past_number number width b ≤ 2 ^ width
  top_by (Included x) key = let h = family.counted.in_size x key in omega (arith, h)
  top_by (Excluded x) key = let h = family.counted.in_size x key in omega (arith, h)
  top_by Unbounded key = omega arith

  pub some_by : (r : AnyRange A) → ¬ IsKeyless order r → from_of r < past_of r
  some_by r keyed = grind (arith, cases_lt, holds_is)

  pub last_held : (r : AnyRange A) → IsKeyRange order r → ¬ IsKeyless order r
      → (a : A) × order.is_key a × Holds order r a × (number a + 1 ≡ past_of r)
  last_held r known keyed =
      let some = some_by r keyed in
      let top = top_by r.end known.1 in
      let n : ℕ = past_of r - 1 in
      let e : number (at n) ≡ n = family.at_number n (omega (arith, some, top)) in
      let key : order.is_key (at n) = family.is_address (at n) (omega (arith, e, some, top)) in (
        at n,
        key,
        (holds_is r (at n) key).1 (omega (arith, e, some), omega (arith, e, some)),
        omega (arith, e, some),
      )

  pub first_held : (r : AnyRange A) → IsKeyRange order r → ¬ IsKeyless order r
      → (a : A) × order.is_key a × Holds order r a × (number a ≡ from_of r)
  first_held r known keyed =
      let some = some_by r keyed in
      let top = top_by r.end known.1 in
      let n : ℕ = from_of r in
      let e : number (at n) ≡ n = family.at_number n (omega (arith, some, top)) in
      let key : order.is_key (at n) = family.is_address (at n) (omega (arith, e, some, top)) in
      (at n, key, (holds_is r (at n) key).1 (omega (arith, e), omega (arith, e, some)), e)

  pub have_spans : (items : List Stored) → Known items → Coarse items
      → AllByRecursion (HasSpan number width) (item_ranges items)
  have_spans [] known coarse = tt
  have_spans (i ∷ items) known coarse =
      grind (arith, some_by, top_by, coarse_rest, have_spans items known.1 (coarse_rest i items coarse))
