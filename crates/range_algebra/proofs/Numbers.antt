-- How many keys there are of a kind.
use Rattle.std.proofs.Common.{◌≡◌, ℕ, zero, suc, ◌+◌, ◌<◌, ◌≤◌, List, [], ◌∷◌, ◌++◌, length, ◌⊎◌, inl, inr, ◌↔◌, refl, ap, subst, arith, length-append, rules}
use Rattle.std.specs.List.{AllByRecursion}
use Rattle.std.specs.declared.cmp.Ordering.{Ordering}
use Rattle.std.specs.declared.cmp.Ordering.TheVariants.{Less, Equal, Greater}
use Rattle.std.specs.Ordering.{nat_cmp, MatchOrdering}
use Rattle.std.specs.Cmp.{IsTotalOrder, tied_itself, ranks}
use Rattle.range_keys.specs.Order.{KeyOrder, Below}
use Rattle.range_keys.specs.Counted.{IsCounted}
use Rattle.range_algebra.specs.Numbers.{Lists, AreRising, IsNumberOfKeys}

module _ {K : Type 0} (order : KeyOrder K) (total : IsTotalOrder order.cmp) where
  all_append : (P : K → Type 0) (xs ys : List K) → AllByRecursion P xs → AllByRecursion P ys
      → AllByRecursion P (xs ++ ys)
  all_append P [] ys all all' = all'
  all_append P (x ∷ xs) ys all all' = (all.0, all_append P xs ys all.1 all')

  -- what holds of each listed key holds of the list's items
  all_listed : (P : K → Type 0) (ys : List K) → AllByRecursion order.is_key ys
      → ((b : K) → order.is_key b → Lists order ys b → P b) → AllByRecursion P ys
  all_listed P [] all h = tt
  all_listed P (y ∷ ys) all h = search (rules, tied_itself, all_listed P ys all.1 (λ b key l. h b key (inr l)))

  from_both : (xs ys : List K) (k : K) → Lists order (xs ++ ys) k
      → Lists order xs k ⊎ Lists order ys k
  from_both [] ys k h = inr h
  from_both (x ∷ xs) ys k (inl h) = inl (inl h)
  from_both (x ∷ xs) ys k (inr h) = search (rules, from_both xs ys k h)

  from_left : (xs ys : List K) (k : K) → Lists order xs k → Lists order (xs ++ ys) k
  from_left [] ys k h = absurd h
  from_left (x ∷ xs) ys k (inl h) = inl h
  from_left (x ∷ xs) ys k (inr h) = inr (from_left xs ys k h)

  from_right : (xs ys : List K) (k : K) → Lists order ys k → Lists order (xs ++ ys) k
  from_right [] ys k h = h
  from_right (x ∷ xs) ys k h = inr (from_right xs ys k h)

  rising_append : (xs ys : List K) → AllByRecursion order.is_key xs → AllByRecursion order.is_key ys
      → AreRising order xs → AreRising order ys
      → ((a b : K) → order.is_key a → order.is_key b → Lists order xs a → Lists order ys b
      → Below order a b) → AreRising order (xs ++ ys)
  rising_append [] ys all all' rising rising' h = rising'
  rising_append (x ∷ xs) ys all all' rising rising' h = search (rules, all_append, all_listed, tied_itself, rising_append xs ys all.1 all' rising.1 rising' (λ a b key key' f g. h a b key key' (inr f) g))

  length_both : (xs ys : List K) (m n : ℕ) → length xs ≡ m → length ys ≡ n
      → length (xs ++ ys) ≡ m + n
  length_both xs ys m n e f = omega (arith, length-append xs ys)

  -- there is no key of a kind that no key is of
  pub number_none : (P : K → Type 0) → ((k : K) → order.is_key k → ¬ P k) → IsNumberOfKeys order P 0
  number_none P none = grind arith

  -- keys of the same kind are as many
  pub number_same : (P Q : K → Type 0) (n : ℕ) → ((k : K) → order.is_key k → P k ↔ Q k)
      → IsNumberOfKeys order P n → IsNumberOfKeys order Q n
  number_same P Q n same h = grind arith

  -- keys of two kinds, of which all of the one are below all of the other, add up
  pub number_both : (P Q : K → Type 0) (m n : ℕ)
      → ((a b : K) → order.is_key a → order.is_key b → P a → Q b → Below order a b)
      → IsNumberOfKeys order P m → IsNumberOfKeys order Q n
      → IsNumberOfKeys order (λ k. P k ⊎ Q k) (m + n)
  number_both P Q m n apart g h = record {
    keys = g.keys ++ h.keys;
    in_type = all_append order.is_key g.keys h.keys g.in_type h.in_type;
    rising =
        rising_append g.keys h.keys g.in_type h.in_type g.rising h.rising
        (λ a b key key' l l'. apart a b key key' ((g.listed a key).1 l) ((h.listed b key').1 l'));
    listed = λ k key. (
      λ e.
          elim e [
            | inl p ↦ from_left g.keys h.keys k ((g.listed k key).0 p)
            | inr q ↦ from_right g.keys h.keys k ((h.listed k key).0 q)
          ],
      λ l.
          elim (from_both g.keys h.keys k l) [
            | inl p ↦ inl ((g.listed k key).1 p)
            | inr q ↦ inr ((h.listed k key).1 q)
          ],
    );
    many = length_both g.keys h.keys m n g.many h.many;
  }

module _ {K : Type 0} {order : KeyOrder K} {index : K → ℕ} {size : ℕ}
    (counted : IsCounted order index size) where
  -- keys lie as their indexes do
  pub below_by_index : (a b : K) → order.is_key a → order.is_key b → Below order a b
      ↔ index a < index b
  below_by_index a b p q = grind arith

  -- the key has one of the n indexes from low on
  abbrev pub IsFrom : ℕ → ℕ → K → Type 0
  IsFrom low n k = (low ≤ index k) × (index k < low + n)

  -- as many keys as indexes
  pub number_from : (low n : ℕ) → low + n ≤ size → IsNumberOfKeys order (IsFrom low n) n
  number_from low zero h = search (rules, number_none, counted.total)
  number_from low (suc n) h =
      let found = counted.key_at low (omega arith) in
      let at : index found.0 ≡ low = found.2 in
      let one : IsNumberOfKeys order (λ k. order.cmp found.0 k ≡ Equal) 1 = record {
        keys = found.0 ∷ [];
        in_type = (found.1, tt);
        rising = (tt, tt);
        listed = λ k key. (λ e. inl e, λ l. elim l [ inl e ↦ e | inr e ↦ absurd e ]);
        many = refl;
      } in
      let rest = number_from (low + 1) n (omega arith) in
      let together =
      number_both order counted.total (λ k. order.cmp found.0 k ≡ Equal)
      (IsFrom (low + 1) n) 1 n
      (λ a b key key' e f. (below_by_index a b key key').1
      (let same = equal_index found.0 a e in let above : low + 1
      ≤ index b = f.0 in omega arith)) one rest in
      subst (IsNumberOfKeys order (IsFrom low (suc n))) (one_more n)
      (number_same order counted.total (λ k. (order.cmp found.0 k ≡ Equal) ⊎ IsFrom (low + 1) n k)
      (IsFrom low (suc n)) (1 + n)
      (λ k key. (into k found.0 at, onto k key found.0 found.1 at)) together)
    where
      one_more : (n : ℕ) → 1 + n ≡ suc n
      one_more n = omega arith

      equal_index : (a b : K) → order.cmp a b ≡ Equal → index a ≡ index b
      equal_index a b e = ap index (counted.same a b e)

      index_equal : (a b : K) → order.is_key a → order.is_key b → index a ≡ index b
          → order.cmp a b ≡ Equal
      index_equal a b key key' e =
          subst (λ x. order.cmp a x ≡ Equal) (counted.same_index a b key key' e)
          (tied_itself counted.total a)

      into : (k x : K) → index x ≡ low → (order.cmp x k ≡ Equal) ⊎ IsFrom (low + 1) n k
          → IsFrom low (suc n) k
      into k x at (inl e) = let same = equal_index x k e in (omega arith, omega arith)
      into k x at (inr e) = let f : low + 1 ≤ index k = e.0 in let g : index k < low + 1 + n =
          e.1 in (omega arith, omega arith)

      by_rank : (k : K) → order.is_key k → (x : K) → order.is_key x → index x ≡ low
          → IsFrom low (suc n) k → (o : Ordering)
          → MatchOrdering o (index x < index k) (index x ≡ index k) (index k < index x)
          → (order.cmp x k ≡ Equal) ⊎ IsFrom (low + 1) n k
      by_rank k key x key' at h Less l = let g : index k < low + suc n =
          h.1 in inr (omega arith, omega arith)
      by_rank k key x key' at h Equal e = inl (index_equal x k key' key e)
      by_rank k key x key' at h Greater l = let f : low ≤ index k = h.0 in absurd (omega arith)

      onto : (k : K) → order.is_key k → (x : K) → order.is_key x → index x ≡ low
          → IsFrom low (suc n) k → (order.cmp x k ≡ Equal) ⊎ IsFrom (low + 1) n k
      onto k key x key' at h =
          by_rank k key x key' at h (nat_cmp (index x) (index k)) (ranks (index x) (index k))
