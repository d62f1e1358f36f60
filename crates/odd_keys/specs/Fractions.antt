-- Fractions in the order of their values: by cross products.
use Rattle.std.specs.Prelude.{◌≡◌, ℕ, ◌*◌, ◌<◌}
use Rattle.std.specs.declared.cmp.Ordering.{Ordering}
use Rattle.std.specs.declared.cmp.Ordering.TheVariants.{Less, Equal, Greater}
use Rattle.std.specs.Ordering.{nat_cmp, MatchOrdering}
use Rattle.std.specs.Cmp.{IsTotalOrder, nat_cmp_total, nat_cmp_is, ranks, ranked}
use Rattle.std.proofs.Common.{sym, ap, ◌∙◌, arith}
use Rattle.std.proofs.Math.Nat.{mul-lt-mul_of_pos_right, lt_of_mul-lt-mul_right}
use Rattle.btree_range_map.specs.Order.{KeyOrder, IsLawful, IsMeasure}
use Rattle.btree_range_map.specs.BareOrders.{bare_order, bare_lawful, bare_measured}
use Rattle.odd_keys.specs.declared.fraction.Fraction.{Fraction}

abbrev pub fraction_cmp : Fraction → Fraction → Ordering
fraction_cmp a b = nat_cmp (a.numerator * b.denominator) (b.numerator * a.denominator)

abbrev pub fraction_order : KeyOrder Fraction
fraction_order = bare_order fraction_cmp

scaled_by : (x y k : ℕ) → 0 < k → (o : Ordering)
    → MatchOrdering o (x < y) (x ≡ y) (y < x)
    → MatchOrdering o (x * k < y * k) (x * k ≡ y * k) (y * k < x * k)
scaled_by x y k p Less h = mul-lt-mul_of_pos_right h p
scaled_by x y k p Equal h = ap (λ w. w * k) h
scaled_by x y k p Greater h = mul-lt-mul_of_pos_right h p

scaled : (x y k : ℕ) → 0 < k → nat_cmp x y ≡ nat_cmp (x * k) (y * k)
scaled x y k p =
    nat_cmp_is (x * k) (y * k) (nat_cmp x y) (scaled_by x y k p (nat_cmp x y) (ranks x y))

-- a/b < c/d and c/d < e/f, over plain numbers
chain : (a b c d e f : ℕ) → 0 < b → 0 < d → 0 < f
    → a * d < c * b → c * f < e * d → a * f < e * b
chain a b c d e f p q r g h =
    let g' : (a * d) * f < (c * b) * f = mul-lt-mul_of_pos_right g r in
    let h' : (c * f) * b < (e * d) * b = mul-lt-mul_of_pos_right h p in
    let k : (a * f) * d < (e * b) * d = omega arith in
    lt_of_mul-lt-mul_right d k

same : (a b c d e f : ℕ) → 0 < b → 0 < d → 0 < f
    → a * d ≡ c * b → nat_cmp (a * f) (e * b) ≡ nat_cmp (c * f) (e * d)
same a b c d e f p q r g =
    let u : (a * f) * d ≡ (c * f) * b = let g' : (a * d) * f ≡ (c * b) * f =
    ap (λ w. w * f) g in omega arith in
    let v : (e * b) * d ≡ (e * d) * b = omega arith in
    scaled (a * f) (e * b) d q ∙ (λ i. nat_cmp (u i) (v i)) ∙ sym (scaled (c * f) (e * d) b p)

pub fraction_total : IsTotalOrder fraction_cmp
fraction_total = record {
  antisymm =
      λ x y. nat_cmp_total.antisymm (x.numerator * y.denominator) (y.numerator * x.denominator);
  trans = λ x y z g h.
      sym (nat_cmp_is (x.numerator * z.denominator) (z.numerator * x.denominator) Less
      (chain x.numerator x.denominator y.numerator y.denominator z.numerator z.denominator
      x.positive y.positive z.positive
      (ranked (x.numerator * y.denominator) (y.numerator * x.denominator) Less (sym g))
      (ranked (y.numerator * z.denominator) (z.numerator * y.denominator) Less (sym h))));
  congr = λ x y z g.
      same x.numerator x.denominator y.numerator y.denominator z.numerator z.denominator x.positive
      y.positive z.positive
      (ranked (x.numerator * y.denominator) (y.numerator * x.denominator) Equal (sym g));
}

pub fraction_lawful : IsLawful fraction_order
fraction_lawful = bare_lawful fraction_cmp fraction_total

pub fraction_measured : IsMeasure fraction_order (λ _. 0) (λ _ _. 0)
fraction_measured = bare_measured fraction_cmp fraction_total
