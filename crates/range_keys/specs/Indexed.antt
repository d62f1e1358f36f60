-- A key type of your own, given by the place of each key: from an index and its inverse follow the
-- order, the neighbours and every law.
use Rattle.std.specs.Prelude.{◌≡◌, ℕ, ◌+◌, ◌-◌, ◌<◌, Option, Some, None, if◌then◌else◌, nat_lt, refl}
use Rattle.std.specs.declared.cmp.Ordering.TheVariants.{Equal}
use Rattle.std.specs.Ordering.{nat_cmp, on}
use Rattle.std.specs.Cmp.{nat_cmp_total, on_total, ranked}
use Rattle.std.proofs.Common.{sym, ap, ◌∙◌, arith}
use Rattle.std.proofs.lemmas.Bool.Decides.{nat_tests}
use Rattle.range_keys.specs.Order.{KeyOrder}
use Rattle.range_keys.specs.Counted.{IsCounted}

-- the keys stand at the indices below the size, one at each
pub record IsIndexed {K : Type 0} (index : K → ℕ) (key_at : ℕ → K) (size : ℕ) : Type 0 where
  pub key_at_index : (k : K) → key_at (index k) ≡ k
  pub index_key_at : (n : ℕ) → n < size → index (key_at n) ≡ n
  pub some_key : 0 < size

module _ {K : Type 0} (index : K → ℕ) (key_at : ℕ → K) (size : ℕ) where
  abbrev pub indexed_succ : K → Option K
  indexed_succ k = if nat_lt (index k + 1) size then Some (key_at (index k + 1)) else None

  abbrev pub indexed_pred : K → Option K
  indexed_pred k =
      if nat_lt 0 (index k) then (if nat_lt (index k) size then Some
      (key_at (index k - 1)) else None) else None

  abbrev pub indexed_order : KeyOrder K
  indexed_order =
      record {
        is_key = λ k. index k < size;
        cmp = on index nat_cmp;
        succ = indexed_succ;
        pred = indexed_pred;
        least = Some (key_at 0);
        greatest = Some (key_at (size - 1));
      }

module _ {K : Type 0} {index : K → ℕ} {key_at : ℕ → K} {size : ℕ}
    (indexed : IsIndexed index key_at size) where
  same_index : (a b : K) → index a ≡ index b → a ≡ b
  same_index a b e = sym (indexed.key_at_index a) ∙ ap key_at e ∙ indexed.key_at_index b

  index_is : (n : ℕ) (b : K) → n < size → key_at n ≡ b → index b ≡ n
  index_is n b h e = ap index (sym e) ∙ indexed.index_key_at n h

  succ_place : (a b : K) → indexed_succ index key_at size a ≡ Some b
      → (index a + 1 < size) × (key_at (index a + 1) ≡ b)
  succ_place a b e = grind (arith, nat_tests)

  pred_place : (a b : K) → indexed_pred index key_at size b ≡ Some a
      → (0 < index b) × (index b < size) × (key_at (index b - 1) ≡ a)
  pred_place a b e = grind (arith, nat_tests)

  succ_at : (a : K) → index a + 1 < size
      → indexed_succ index key_at size a ≡ Some (key_at (index a + 1))
  succ_at a h = grind (arith, nat_tests)

  pred_at : (b : K) → 0 < index b → index b < size
      → indexed_pred index key_at size b ≡ Some (key_at (index b - 1))
  pred_at b g h = grind (arith, nat_tests)

  succ_is : (a b : K) → indexed_succ index key_at size a ≡ Some b
      → (index a < size) × (index b < size) × (index b ≡ index a + 1)
  succ_is a b e =
      let h = succ_place a b e in
      let below : index a + 1 < size = h.0 in
      let at : index b ≡ index a + 1 = index_is (index a + 1) b h.0 h.1 in
      (omega arith, omega arith, at)

  pred_is : (a b : K) → indexed_pred index key_at size b ≡ Some a
      → (index a < size) × (index b < size) × (index b ≡ index a + 1)
  pred_is a b e =
      let h = pred_place a b e in
      let above : 0 < index b = h.0 in
      let below : index b < size = h.1 in
      let at : index a ≡ index b - 1 = index_is (index b - 1) a (omega arith) h.2 in
      (omega arith, below, omega arith)

  is_succ : (a b : K) → index a < size → index b < size → index b ≡ index a + 1
      → indexed_succ index key_at size a ≡ Some b
  is_succ a b p q e = succ_at a (omega arith) ∙ ap Some (ap key_at (sym e) ∙ indexed.key_at_index b)

  is_pred : (a b : K) → index a < size → index b < size → index b ≡ index a + 1
      → indexed_pred index key_at size b ≡ Some a
  is_pred a b p q e = let at : index b - 1 ≡ index a =
      omega arith in pred_at b (omega arith) q ∙ ap Some (ap key_at at ∙ indexed.key_at_index a)

  pub indexed_counted : IsCounted (indexed_order index key_at size) index size
  indexed_counted = record {
    total = on_total index nat_cmp_total;
    same = λ a b e. same_index a b (ranked (index a) (index b) Equal (sym e));
    by_index = λ a b p q. refl;
    same_index = λ a b p q e. same_index a b e;
    in_size = λ a p. p;
    key_at = λ n h. let at = indexed.index_key_at n h in (key_at n, rw at h, at);
    succ_is = succ_is;
    pred_is = pred_is;
    is_succ = is_succ;
    is_pred = is_pred;
    first = key_at 0;
    first_key = let at = indexed.index_key_at 0 indexed.some_key in rw at indexed.some_key;
    least_known = refl;
    first_index = indexed.index_key_at 0 indexed.some_key;
    last = key_at (size - 1);
    last_key = let some = indexed.some_key in let h : size - 1 < size =
        omega arith in rw (indexed.index_key_at (size - 1) h) h;
    greatest_known = refl;
    last_index = let some = indexed.some_key in let h : size - 1 < size = omega arith in let at =
        indexed.index_key_at (size - 1) h in omega arith;
  }
