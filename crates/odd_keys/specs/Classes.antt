-- Keys of which several may be equal: each has a place, and just those at the same place are equal.
use Rattle.std.specs.Prelude.{◌≡◌, ℕ, ◌+◌, ◌-◌, ◌<◌, ◌^◌, Option, Some, None}
use Rattle.std.specs.Prelude.{if◌then◌else◌, nat_lt, refl, ◌⊎◌}
use Rattle.std.specs.declared.cmp.Ordering.{Ordering}
use Rattle.std.specs.declared.cmp.Ordering.TheVariants.{Less, Equal, Greater}
use Rattle.std.specs.Ordering.{nat_cmp, MatchOrdering}
use Rattle.std.specs.Cmp.{nat_cmp_total, on_total, ranked, ranks, nat_cmp_is}
use Rattle.std.proofs.Common.{sym, subst, ap, ◌∙◌, arith, inl, inr}
use Rattle.std.proofs.lemmas.Bool.Decides.{nat_tests}
use Rattle.btree_range_map.specs.Order.{KeyOrder, IsLawful, IsComplete, IsMeasure}
use Rattle.btree_range_map.specs.Order.{Below, Tells, SameAnswer}
use Rattle.btree_range_map.specs.Counted.{is_not_above, not_above_is}
use Rattle.btree_range_map.specs.Indexed.{indexed_order, indexed_succ, indexed_pred}

-- at each place below the size stands a key
pub record HasPlaces {K : Type 0} (place : K → ℕ) (key_at : ℕ → K) (size : ℕ) : Type 0 where
  pub place_key_at : (n : ℕ) → n < size → place (key_at n) ≡ n
  pub some_key : 0 < size

module _ {K : Type 0} (place : K → ℕ) (key_at : ℕ → K) (size : ℕ) where
  -- what a key at the place n tells
  abbrev next_at : ℕ → Option K
  next_at n = if nat_lt (n + 1) size then Some (key_at (n + 1)) else None

  abbrev previous_at : ℕ → Option K
  previous_at n =
      if nat_lt 0 n then (if nat_lt n size then Some (key_at (n - 1)) else None) else None

  succ_place : (a b : K) → indexed_succ place key_at size a ≡ Some b
      → (place a + 1 < size) × (key_at (place a + 1) ≡ b)
  succ_place a b e = grind (arith, nat_tests)

  pred_place : (a b : K) → indexed_pred place key_at size b ≡ Some a
      → (0 < place b) × (place b < size) × (key_at (place b - 1) ≡ a)
  pred_place a b e = grind (arith, nat_tests)

  succ_at : (a : K) → place a + 1 < size
      → indexed_succ place key_at size a ≡ Some (key_at (place a + 1))
  succ_at a h = grind (arith, nat_tests)

  pred_at : (b : K) → 0 < place b → place b < size
      → indexed_pred place key_at size b ≡ Some (key_at (place b - 1))
  pred_at b g h = grind (arith, nat_tests)

module _ {K : Type 0} (place : K → ℕ) {key_at : ℕ → K} {size : ℕ}
    (has : HasPlaces place key_at size) where
  abbrev order : KeyOrder K
  order = indexed_order place key_at size

  same : (a b : K) → place a ≡ place b → order.cmp a b ≡ Equal
  same a b e = sym (nat_cmp_is (place a) (place b) Equal e)

  below : (a b : K) → place a < place b → Below order a b
  below a b h = sym (nat_cmp_is (place a) (place b) Less h)

  same_place : (a b : K) → order.cmp a b ≡ Equal → place a ≡ place b
  same_place a b e = ranked (place a) (place b) Equal (sym e)

  below_place : (a b : K) → Below order a b → place a < place b
  below_place a b e = ranked (place a) (place b) Less (sym e)

  some_is : {a b : K} → Some a ≡ Some b → a ≡ b
  some_is e = cc

  succ_is : (a b : K) → order.succ a ≡ Some b
      → (place a < size) × (place b < size) × (place b ≡ place a + 1)
  succ_is a b e =
      let h = succ_place place key_at size a b e in
      let next : place a + 1 < size = h.0 in
      let at : place b ≡ place a + 1 = ap place (sym h.1) ∙ has.place_key_at (place a + 1) h.0 in
      (omega arith, omega arith, at)

  pred_is : (a b : K) → order.pred b ≡ Some a
      → (place a < size) × (place b < size) × (place b ≡ place a + 1)
  pred_is a b e =
      let h = pred_place place key_at size a b e in
      let above : 0 < place b = h.0 in
      let small : place b < size = h.1 in
      let stands = has.place_key_at (place b - 1) (omega arith) in
      let at : place a ≡ place b - 1 = ap place (sym h.2) ∙ stands in
      (omega arith, small, omega arith)

  tells_pred : (a b : K) → place a < size → place b < size → place b ≡ place a + 1
      → Tells order (order.pred b) a
  tells_pred a b p q e =
      let told = key_at (place b - 1) in
      let at : place told ≡ place b - 1 = has.place_key_at (place b - 1) (omega arith) in
      let tells = pred_at place key_at size b (omega arith) q in
      subst (λ o. Tells order o a) (sym tells) (same told a (omega arith))

  tells_succ : (a b : K) → place a < size → place b < size → place b ≡ place a + 1
      → Tells order (order.succ a) b
  tells_succ a b p q e =
      let told = key_at (place a + 1) in
      let at : place told ≡ place a + 1 = has.place_key_at (place a + 1) (omega arith) in
      let tells = succ_at place key_at size a (omega arith) in
      subst (λ o. Tells order o b) (sym tells) (same told b (omega arith))

  same_answer : (o : Option K) → SameAnswer order o o
  same_answer None = tt
  same_answer (Some x) = same x x refl

  first_place : (m : K) → order.least ≡ Some m → place m ≡ 0
  first_place m e = ap place (sym (some_is e)) ∙ has.place_key_at 0 has.some_key

  last_place : (m : K) → order.greatest ≡ Some m → place m ≡ size - 1
  last_place m e =
      let some = has.some_key in
      ap place (sym (some_is e)) ∙ has.place_key_at (size - 1) (omega arith)

  pub classes_lawful : IsLawful order
  classes_lawful = record {
    total = on_total place nat_cmp_total;
    succ_key = λ a b e. let h = succ_is a b e in (h.0, h.1);
    pred_key = λ a b e. let h = pred_is a b e in (h.0, h.1);
    succ_above = λ a b e. let h = (succ_is a b e).2 in below a b (omega arith);
    succ_pred = λ a b e. let h = succ_is a b e in tells_pred a b h.0 h.1 h.2;
    pred_succ = λ a b e. let h = pred_is a b e in tells_succ a b h.0 h.1 h.2;
    none_between = λ a b k e key l.
        let h = (succ_is a b e).2 in
        let i = below_place a k l in
        is_not_above (place b) (place k) (omega arith);
    succ_congr = λ a b e.
        let told = ap (next_at place key_at size) (same_place a b e) in
        subst (λ o. SameAnswer order (order.succ a) o) told (same_answer (order.succ a));
    pred_congr = λ a b e.
        let told = ap (previous_at place key_at size) (same_place a b e) in
        subst (λ o. SameAnswer order (order.pred a) o) told (same_answer (order.pred a));
    least_key = λ m e. let h = first_place m e in let some = has.some_key in omega arith;
    greatest_key = λ m e. let h = last_place m e in let some = has.some_key in omega arith;
    least_bound = λ m k e key.
        let h = first_place m e in is_not_above (place m) (place k) (omega arith);
    greatest_bound = λ m k e key.
        let h = last_place m e in is_not_above (place k) (place m) (omega arith);
  }

  next_of : (a b : K) → place a < size → place b < size → place a < place b → (r : Ordering)
      → MatchOrdering r (place a + 1 < place b) (place a + 1 ≡ place b) (place b < place a + 1)
      → Tells order (order.succ a) b ⊎
      ((c : K) × order.is_key c × Below order a c × Below order c b)
  next_of a b p q l Less h =
      let c = key_at (place a + 1) in
      let at : place c ≡ place a + 1 = has.place_key_at (place a + 1) (omega arith) in
      inr (c, (omega arith), below a c (omega arith), below c b (omega arith))
  next_of a b p q l Equal h = inl (tells_succ a b p q (sym h))
  next_of a b p q l Greater h = absurd (omega arith)

  pub classes_complete : IsComplete order
  classes_complete = record {
    some_key =
        let at = has.place_key_at 0 has.some_key in
        let some = has.some_key in
        (key_at 0, (omega arith));
    next = λ a b p q l.
        let order = ranks (place a + 1) (place b) in
        next_of a b p q (below_place a b l) (nat_cmp (place a + 1) (place b)) order;
    below = λ a p. inl refl;
    above = λ a p. inl refl;
  }

  -- the keys at one place have length 1 together
  pub classes_measure : size < 2 ^ 128 → IsMeasure order (λ _. 1) (λ a b. place b - place a)
  classes_measure small = record {
    len_congr = λ a b p q e. refl;
    itself = λ a b p q e. let h = same_place a b e in omega arith;
    adds = λ a b c p q r f g.
        let h = not_above_is (place a) (place b) f in
        let k = not_above_is (place b) (place c) g in
        omega arith;
    at_least = λ a b p q l. let h = below_place a b l in omega arith;
    step = λ a b e. let h = (succ_is a b e).2 in omega arith;
    fits = λ a b p q f. omega arith;
  }
