-- There are as many addresses of a kind as numbers that pass a test which says so.
use Rattle.std.proofs.Common.{◌≡◌, ℕ, ◌+◌, ◌-◌, ◌≤◌, ◌<◌, ◌^◌, ◌↔◌, Bool, true, false, List, [], ◌∷◌, length, inl, inr, refl, ap, sym, subst, ◌∙◌, arith}
use Rattle.std.specs.Cmp.{ranked, nat_cmp_is}
use Rattle.std.specs.List.{AllByRecursion}
use Rattle.std.specs.declared.cmp.Ordering.TheVariants.{Equal}
use Rattle.btree_range_map.specs.Numbers.{AreRising, IsNumberOfKeys, Lists}
use Rattle.btree_range_map.specs.Order.{Below, KeyOrder}
use Rattle.address_keys.specs.Families.{IsFamily}
use Rattle.address_sets.proofs.Sets.{below_number}
use Rattle.least_covers.specs.Covers.{how_many}
use Rattle.least_covers.proofs.Counts.{counts_add, counts_all, counts_ext, counts_none}

not_true : (b : Bool) → (b ≡ true → ⊥) → b ≡ false
not_true true h = absurd (h refl)
not_true false h = refl

module _ {A : Type 0} {order : KeyOrder A} {number : A → ℕ} {at : ℕ → A} {width : ℕ}
    (family : IsFamily order number at width) where
  number_equal : (a b : A) → order.cmp a b ≡ Equal → number a ≡ number b
  number_equal a b e = ranked (number a) (number b) Equal (sym e ∙ family.by_number a b)

  equal_number : (a b : A) → number a ≡ number b → order.cmp a b ≡ Equal
  equal_number a b e = family.by_number a b ∙ sym (nat_cmp_is (number a) (number b) Equal e)

  abbrev AreFrom : ℕ → List A → Type 0
  AreFrom b keys = AllByRecursion (λ a. b ≤ number a) keys

  listed_from : (c : ℕ) (keys : List A) (x : A) → AreFrom c keys → Lists order keys x → c ≤ number x
  listed_from c [] x low none = absurd none
  listed_from c (b ∷ keys) x low (inl e) = let same = number_equal b x e in let h = low.0 in omega (arith, h, same)
  listed_from c (b ∷ keys) x low (inr later) = listed_from c keys x low.1 later

  all_after : (a : A) (keys : List A) → AllByRecursion (Below order a) keys
      → AreFrom (number a + 1) keys
  all_after a [] h = tt
  all_after a (b ∷ keys) h =
      ((let less = below_number family a b h.0 in omega (arith, less)), all_after a keys h.1)

  abbrev Tests : ℕ → List A → (ℕ → Bool) → Type 0
  Tests from keys f =
      (k : ℕ) → from ≤ k → k < 2 ^ width → Lists order keys (at k) ↔ (f k ≡ true)

  count_keys : (keys : List A) (from n : ℕ) (f : ℕ → Bool) → from + n ≡ 2 ^ width
      → AllByRecursion order.is_key keys → AreRising order keys → AreFrom from keys
      → Tests from keys f → how_many n (λ k. f (from + k)) ≡ length keys
  count_keys [] from n f e known rising low is =
      counts_none n (λ k. f (from + k))
      (λ k less. not_true (f (from + k)) (λ t. (is (from + k) (omega arith) (omega arith)).1 t))
  count_keys (a ∷ keys) from n f e known rising low is =
      let m : ℕ = number a in
      let small = family.counted.in_size a known.0 in
      let first = low.0 in
      let gap : ℕ = m - from in
      let rest : ℕ = 2 ^ width - (m + 1) in
      let whole : n ≡ gap + (1 + rest) = omega (arith, small, first) in
      let later = all_after a keys rising.0 in
      let g : ℕ → Bool = λ k. f (from + k) in
      let one = counts_add gap (1 + rest) g in
      let two = counts_add 1 rest (λ k. g (gap + k)) in
      let none = counts_none gap g (λ k less. not_true (f (from + k)) (λ t.
      let here : number (at (from + k)) ≡ from + k = family.at_number (from + k) (omega (arith, small, first)) in
      elim ((is (from + k) (omega arith) (omega (arith, small, first))).1 t) [
        | inl same ↦ let h = number_equal a (at (from + k)) same in omega (arith, h, here, first)
        | inr after ↦
            let h = listed_from (m + 1) keys (at (from + k)) later after in omega (arith, h, here, first)
      ])) in
      let itself : f m ≡ true = (is m first small).0 (inl (equal_number a (at m) (sym (family.at_number m small)))) in
      let own = counts_all 1 (λ k. g (gap + k)) (λ k less.
      let z : from + (gap + k) ≡ m = omega (arith, first) in ap (λ x. f x) z ∙ itself) in
      let again = count_keys keys (m + 1) rest f (omega (arith, small)) known.1 rising.1 later
      (λ k past fits.
      let here : number (at k) ≡ k = family.at_number k fits in (
        λ listed. (is k (omega (arith, past, first)) fits).0 (inr listed),
        λ t. elim ((is k (omega (arith, past, first)) fits).1 t) [
          | inl same ↦ let h = number_equal a (at k) same in absurd (omega (arith, h, here, past))
          | inr after ↦ after
        ],
      )) in
      let moved = counts_ext rest (λ k. g (gap + (1 + k))) (λ k. f ((m + 1) + k))
      (λ k less. ap (λ x. f x) (let z : from + (gap + (1 + k)) ≡ (m + 1) + k = omega (arith, first) in z)) in
      ap (λ x. how_many x g) whole ∙ omega (arith, one, two, none, own, again, moved)

  zero_low : (keys : List A) → AreFrom 0 keys
  zero_low [] = tt
  zero_low (a ∷ keys) = (omega arith, zero_low keys)

  -- each number is the number of an address
  pub key_at : (n : ℕ) → n < 2 ^ width → order.is_key (at n)
  key_at n small =
      let e = family.at_number n small in family.is_address (at n) (omega (arith, e, small))

  -- what is so of an address just where a test says so of its number is tested by numbers
  pub by_number : (P : A → Type 0) (f : ℕ → Bool)
      → ((a : A) → order.is_key a → P a ↔ (f (number a) ≡ true))
      → (k : ℕ) → k < 2 ^ width → P (at k) ↔ (f k ≡ true)
  by_number P f h k small =
      subst (λ n. P (at k) ↔ (f n ≡ true)) (family.at_number k small) (h (at k) (key_at k small))

  pub number_is : (P : A → Type 0) (f : ℕ → Bool)
      → ((a : A) → order.is_key a → P a ↔ (f (number a) ≡ true)) → (n : ℕ)
      → IsNumberOfKeys order P n → n ≡ how_many (2 ^ width) f
  number_is P f tested n count =
      let is = by_number P f tested in
      let all_low = zero_low count.keys in
      let counted = count_keys count.keys 0 (2 ^ width) f (omega arith) count.in_type count.rising all_low
      (λ k past fits.
      let key = key_at k fits in (
        λ listed. (is k fits).0 ((count.listed (at k) key).1 listed),
        λ t. (count.listed (at k) key).0 ((is k fits).1 t),
      )) in
      let same = counts_ext (2 ^ width) (λ k. f (0 + k)) f
      (λ k less. ap (λ x. f x) (let z : 0 + k ≡ k = omega arith in z)) in
      let many = count.many in omega (arith, counted, same, many)
