-- The prefixes of a range: each is the widest at its place, and they have just its addresses.
use Rattle.std.proofs.Common.{◌≡◌, ℕ, zero, suc, ◌+◌, ◌-◌, ◌*◌, ◌^◌, ◌≤◌, ◌<◌, true, false, nat_lt, List, [], ◌∷◌, inl, inr, sym, subst, arith}
use Rattle.std.proofs.Math.Pow.{pow_pos, pow_mono, pow-add}
use Rattle.std.proofs.lemmas.Bool.{cases_lt}
use Rattle.std.proofs.lemmas.Bool.Decides.{nat_tests}
use Rattle.btree_range_map.specs.Order.{KeyOrder}
use Rattle.address_keys.specs.Families.{IsFamily}
use Rattle.address_prefixes.specs.Prefixes.{IsAligned, IsPrefix, SomeHasAddress, size}
use Rattle.address_prefixes.specs.Tiles.{all_tiles, prefix_at, tiles, widest}
use Rattle.address_prefixes.specs.declared.prefix.Prefix.{Prefix}
use Rattle.address_prefixes.proofs.Widest.{widest_is}

module _ {A : Type 0} {order : KeyOrder A} {number : A → ℕ} {at : ℕ → A} {width : ℕ}
    (family : IsFamily order number at width) where
  -- the widest of the prefixes that start at a number and end before another
  pub record IsWidest (from past : ℕ) (p : Prefix A) : Type 0 where
    pub prefix : IsPrefix number width p
    pub starts : number p.network ≡ from
    pub inside : from + size number width p ≤ past
    pub widest : (k : ℕ) → IsAligned from k → from + 2 ^ k ≤ past → k ≤ width - p.length

  -- one after the other they fill the numbers from one up to another
  abbrev pub AreWidest : ℕ → ℕ → List (Prefix A) → Type 0
  AreWidest from past [] = from ≡ past
  AreWidest from past (p ∷ ps) = IsWidest from past p × AreWidest (from + size number width p) past ps

  -- no block is wider than all addresses
  narrow : (from past k : ℕ) → past ≤ 2 ^ width → from + 2 ^ k ≤ past → k ≤ width
  narrow from past k top inside = elim (cases_lt width k) [
    | inl more ↦
        let p : 2 ^ (width + 1) ≤ 2 ^ k = pow_mono (omega arith) in
        let r : 2 ^ (width + 1) ≡ 2 ^ width * 2 = pow-add 2 width 1 in
        let s = pow_pos width in
        absurd (omega (arith, p, r, s, top, inside))
    | inr not ↦ not
  ]

  is_widest : (from past : ℕ) → from < past → past ≤ 2 ^ width
      → IsWidest from past (prefix_at at width from (widest width from past))
  is_widest from past h top =
      let found = widest_is width from past h in
      let bounded = found.bounded in
      let inside = found.inside in
      let k : ℕ = widest width from past in
      let some = pow_pos k in
      let same : width - (width - k) ≡ k = omega (arith, bounded) in
      let start : number (at from) ≡ from = family.at_number from (omega (arith, h, top)) in
      let end : number (at (from + 2 ^ k - 1)) ≡ from + 2 ^ k - 1 =
      family.at_number (from + 2 ^ k - 1) (omega (arith, inside, some, top)) in
      record {
        prefix = record {
          short = omega arith;
          aligned = rw (same, start) found.aligned;
          ends = rw (same, start, end) (omega (arith, some));
          fits = rw end (omega (arith, inside, some, top));
        };
        starts = start;
        inside = rw same inside;
        widest = λ j a i. rw same (found.greatest j (narrow from past j top i) a i);
      }

  tiles_are : (n from past : ℕ) → from ≤ past → past ≤ from + n → past ≤ 2 ^ width
      → AreWidest from past (tiles at width n from past)
  unfolding tiles
  tiles_are zero from past le enough top = omega (arith, le, enough)
  tiles_are (suc n) from past le enough top = elim (cases_lt from past) [
    | inl h ↦
        let e : nat_lt from past ≡ true = grind (arith, nat_tests) in
        let found = widest_is width from past h in
        let bounded = found.bounded in
        let some = pow_pos (widest width from past) in
        let same : width - (width - widest width from past) ≡ widest width from past =
        omega (arith, bounded) in
        rw e (
          is_widest from past h top,
          subst (λ k. AreWidest (from + 2 ^ k) past
              (tiles at width n (from + 2 ^ widest width from past) past)) (sym same)
              (tiles_are n (from + 2 ^ widest width from past) past found.inside
              (omega (arith, enough, some)) top),
        )
    | inr not ↦
        let e : nat_lt from past ≡ false = grind (arith, nat_tests) in
        rw e (omega (arith, le, not))
  ]

  pub all_tiles_are : (from past : ℕ) → from ≤ past → past ≤ 2 ^ width
      → AreWidest from past (all_tiles at width from past)
  all_tiles_are from past le top = tiles_are (past - from) from past le (omega (arith, le)) top

  pub of_some : (from past : ℕ) (ps : List (Prefix A)) (a : A) → AreWidest from past ps
      → SomeHasAddress number ps a → (from ≤ number a) × (number a < past)
  of_some from past [] a e none = absurd none
  of_some from past (p ∷ ps) a e (inl here) = grind arith
  of_some from past (p ∷ ps) a e (inr later) =
      grind (arith, of_some (from + size number width p) past ps a e.1 later)

  pub some_of : (from past : ℕ) (ps : List (Prefix A)) (a : A) → AreWidest from past ps
      → from ≤ number a → number a < past → SomeHasAddress number ps a
  some_of from past [] a e low high = absurd (omega (arith, e, low, high))
  some_of from past (p ∷ ps) a e low high =
      let starts = e.0.starts in
      let ends = e.0.prefix.ends in
      elim (cases_lt (number p.last) (number a)) [
        | inl after ↦
            inr (some_of (from + size number width p) past ps a e.1
            (omega (arith, after, ends, starts)) high)
        | inr within ↦ inl (omega (arith, starts, low), within)
      ]
