-- The prefixes of a range: the first, and those of what is left.
use Rattle.std.proofs.Common.{◌≡◌, ℕ, zero, suc, ◌+◌, ◌-◌, ◌^◌, ◌≤◌, ◌<◌, List, [], ◌∷◌, inl, inr, refl, sym, ap, subst, ◌∙◌, arith}
use Rattle.std.proofs.Math.Pow.{pow_mono, pow_pos}
use Rattle.std.proofs.lemmas.Bool.{cases_lt}
use Rattle.std.proofs.lemmas.Bool.Decides.{nat_tests}
use Rattle.address_prefixes.specs.Tiles.{all_tiles, prefix_at, tiles, widest}
use Rattle.address_prefixes.specs.declared.prefix.Prefix.{Prefix}
use Rattle.address_prefixes.proofs.Widest.{widest_is}

module _ {A : Type 0} (at : ℕ → A) (width : ℕ) where
  abbrev Tiles : ℕ → ℕ → ℕ → List (Prefix A)
  Tiles n from past = tiles at width n from past

  none_left : (n from past : ℕ) → past ≤ from → Tiles n from past ≡ []
  unfolding tiles
  none_left zero from past le = refl
  none_left (suc n) from past le = grind (arith, nat_tests)

  pub no_tiles : (from past : ℕ) → past ≤ from → all_tiles at width from past ≡ []
  no_tiles from past le = none_left (past - from) from past le

  first_tile : (n from past : ℕ) → from < past
      → Tiles (suc n) from past ≡ prefix_at at width from (widest width from past)
      ∷ Tiles n (from + 2 ^ widest width from past) past
  unfolding tiles
  first_tile n from past h = grind (arith, nat_tests)

  enough : (n m from past : ℕ) → past ≤ from + n → past ≤ from + m
      → Tiles n from past ≡ Tiles m from past
  enough zero m from past h g = grind (arith, none_left)
  enough (suc n) zero from past h g = grind (arith, none_left)
  enough (suc n) (suc m) from past h g = elim (cases_lt from past) [
    | inl less ↦
        let some = pow_pos (widest width from past) in
        first_tile n from past less
        ∙ ap (λ l. prefix_at at width from (widest width from past) ∷ l)
        (enough n m (from + 2 ^ widest width from past) past (omega (arith, h, some))
        (omega (arith, g, some)))
        ∙ sym (first_tile m from past less)
    | inr le ↦ none_left (suc n) from past le ∙ sym (none_left (suc m) from past le)
  ]

  pub next_tile : (from past : ℕ) → from < past
      → all_tiles at width from past
      ≡ prefix_at at width from (widest width from past)
      ∷ all_tiles at width (from + 2 ^ widest width from past) past
  next_tile from past h =
      let n : ℕ = past - from in
      let k : ℕ = from + 2 ^ widest width from past in
      let some = pow_pos (widest width from past) in
      enough (past - from) (suc (past - from)) from past (omega (arith, h)) (omega (arith, h))
      ∙ first_tile (past - from) from past h
      ∙ ap (λ l. prefix_at at width from (widest width from past) ∷ l)
      (enough (past - from) (past - k) k past (omega (arith, h, some)) (omega (arith, h, some)))

-- numbers from the first to the last, and how many bits are free in the widest block at the first
module _ {width told first last free : ℕ} (le : first ≤ last) (is_width : told ≡ width)
    (is : free ≡ widest told first (last + 1)) where
  is_widest : free ≡ widest width first (last + 1)
  is_widest = subst (λ w. free ≡ widest w first (last + 1)) is_width is

  pub is_bounded : free ≤ width
  is_bounded = grind (arith, widest_is, is_widest)

  pub is_inside : (rest : ℕ) → rest + 1 ≡ 2 ^ free → first + rest ≤ last
  is_inside rest size = grind (arith, widest_is, is_widest)

  -- what is shown next, and what is left
  pub divided : {A : Type 0} (at : ℕ → A) (rest : ℕ) {length : ℕ} {network end : A}
      → rest + 1 ≡ 2 ^ free
      → network ≡ at first → end ≡ at (first + rest) → length ≡ width - free
      → all_tiles at width first (last + 1)
      ≡ (record { network = network; last = end; length = length })
      ∷ all_tiles at width (first + rest + 1) (last + 1)
  divided at rest size n l e = grind (arith, is_widest, next_tile)

pub powers_fit : (width n : ℕ) → width ≤ 128 → n < 2 ^ width → n < 2 ^ 128
powers_fit width n small h = let p : 2 ^ width ≤ 2 ^ 128 = pow_mono small in omega (arith, p, h)
