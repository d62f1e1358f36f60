-- The addresses that have one of some values, range after range.
use Rattle.std.proofs.Common.{◌≡◌, ℕ, ◌-◌, ◌⊎◌, ◌↔◌, true, false, List, [], ◌∷◌, inl, inr, refl, sym, subst, ◌∙◌, arith}
use Rattle.std.specs.Prelude.{Bool, IsTrue}
use Rattle.std.proofs.lemmas.Bool.{false≢true}
use Rattle.btree_range_map.specs.AnyRange.{AnyRange}
use Rattle.btree_range_map.specs.Item.{Item}
use Rattle.btree_range_map.specs.KeySets.{HoldsAlso, HoldsKey}
use Rattle.btree_range_map.specs.Names.{range_inclusive}
use Rattle.btree_range_map.specs.Order.{KeyOrder}
use Rattle.btree_range_map.specs.Range.{Holds}
use Rattle.address_keys.specs.Families.{IsFamily}
use Rattle.address_prefixes.specs.Spans.{HasSpan, past_number, span, start_number}
use Rattle.address_sets.proofs.Sets.{holds_is}
use Rattle.address_table_lists.specs.Parts.{AreAddedIf, HasOneOf, HaveValue, is_among}

module _ {A : Type 0} {order : KeyOrder A} {number : A → ℕ} {at : ℕ → A} {width : ℕ}
    (family : IsFamily order number at width) where
  -- a range holds what one by its first and last address does
  pub span_holds : (r : AnyRange A) (a : A) → order.is_key a → HasSpan number width r
      → Holds order (range_inclusive (at (span number width r).0) (at (span number width r).1)) a
      ↔ Holds order r a
  span_holds r a key has =
      let ends : AnyRange A =
      range_inclusive (at (span number width r).0) (at (span number width r).1) in
      let some = has.0 in
      let top = has.1 in
      let first = family.at_number (start_number number r.start) (omega (arith, some, top)) in
      let last = family.at_number (past_number number width r.end - 1)
      (omega (arith, some, top)) in
      let one = holds_is family ends a key in
      let other = holds_is family r a key in (
        λ h. let low = (one.0 h).0 in
            let high = (one.0 h).1 in
            other.1 (omega (arith, first, low), omega (arith, last, high, some)),
        λ h. let low = (other.0 h).0 in
            let high = (other.0 h).1 in
            one.1 (omega (arith, first, low), omega (arith, last, high, some)),
      )

  -- the addresses of a range are added, where that is so
  pub span_added : (is_so : Bool) (r : AnyRange A) (ends : ℕ × ℕ)
      (old new : List (Item (AnyRange A) (Unit {0}))) → is_so ≡ true → HasSpan number width r
      → ends ≡ span number width r
      → HoldsAlso order old new (range_inclusive (at ends.0) (at ends.1))
      → AreAddedIf order is_so r old new
  span_added is_so r ends old new so has same added = λ a key.
      let more = rw same at (added a key) in
      let alike = span_holds r a key has in (
        λ held. elim (more.0 held) [
          | inl old_held ↦ inl old_held
          | inr here ↦ inr (so, alike.0 here)
        ],
        λ either. elim either [
          | inl old_held ↦ more.1 (inl old_held)
          | inr here ↦ more.1 (inr (alike.1 here.1))
        ],
      )

  pub none_added : (is_so : Bool) (r : AnyRange A) (held : List (Item (AnyRange A) (Unit {0})))
      → is_so ≡ false → AreAddedIf order is_so r held held
  none_added is_so r held untrue = λ a key. (
    λ h. inl h,
    λ either. elim either [ inl h ↦ h | inr here ↦ absurd (false≢true (sym untrue ∙ here.0)) ],
  )

module _ {A : Type 0} (order : KeyOrder A) (values : List ℕ) where
  has_one_first : (i : Item (AnyRange A) ℕ) (items : List (Item (AnyRange A) ℕ)) (a : A)
      → HasOneOf order values (i ∷ items) a
      ↔ ((IsTrue (is_among values i.value) × Holds order i.key a) ⊎ HasOneOf order values items a)
  has_one_first i items a = (
    λ (v, among, stored). elim stored [
      | inl here ↦ inl (subst (λ w. IsTrue (is_among values w)) (sym here.1) among, here.0)
      | inr later ↦ inr (v, among, later)
    ],
    λ one. elim one [
      | inl here ↦ (i.value, here.0, inl (here.1, refl))
      | inr later ↦ (later.0, later.1, inr later.2)
    ],
  )

  -- what the set holds, and what is sought of the ranges that are left, is what is sought of all
  abbrev pub IsSelectedTo : List (Item (AnyRange A) ℕ) → List (Item (AnyRange A) ℕ)
      → List (Item (AnyRange A) (Unit {0})) → Type 0
  IsSelectedTo all left set = (a : A) → order.is_key a
      → (HoldsKey order set a ⊎ HasOneOf order values left a) ↔ HasOneOf order values all a

  pub selected_none : (all left : List (Item (AnyRange A) ℕ))
      (set : List (Item (AnyRange A) (Unit {0}))) → left ≡ all → set ≡ []
      → IsSelectedTo all left set
  selected_none all left set same none =
      rw (same, none)
      (λ a key. (λ either. elim either [ inl held ↦ absurd held | inr has ↦ has ], λ has. inr has))

  -- the addresses of the next range are added, where it has one of the values
  pub selected_next : (all left rest : List (Item (AnyRange A) ℕ)) (i : Item (AnyRange A) ℕ)
      (old new : List (Item (AnyRange A) (Unit {0}))) → left ≡ i ∷ rest
      → AreAddedIf order (is_among values i.value) i.key old new → IsSelectedTo all left old
      → IsSelectedTo all rest new
  selected_next all left rest i old new first added is = λ a key.
      let before = rw first at (is a key) in
      let more = added a key in
      let next = has_one_first i rest a in (
        λ either. elim either [
          | inl held ↦ elim (more.0 held) [
            | inl old_held ↦ before.0 (inl old_held)
            | inr here ↦ before.0 (inr (next.1 (inl here)))
          ]
          | inr later ↦ before.0 (inr (next.1 (inr later)))
        ],
        λ has. elim (before.1 has) [
          | inl old_held ↦ inl (more.1 (inl old_held))
          | inr some ↦ elim (next.0 some) [
            | inl here ↦ inl (more.1 (inr here))
            | inr later ↦ inr later
          ]
        ],
      )

  pub selected_all : (all left : List (Item (AnyRange A) ℕ))
      (set : List (Item (AnyRange A) (Unit {0}))) → left ≡ [] → IsSelectedTo all left set
      → HaveValue order all values set
  selected_all all left set none is = λ a key.
      let before = rw none at (is a key) in (
        λ held. before.0 (inl held),
        λ has. elim (before.1 has) [ inl held ↦ held | inr some ↦ absurd some.2 ],
      )
