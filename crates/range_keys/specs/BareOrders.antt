-- Keys of which no neighbour and no end is known are lawful by their order alone.
use Rattle.std.specs.Prelude.{None, refl}
use Rattle.std.specs.declared.cmp.Ordering.{Ordering}
use Rattle.std.specs.Cmp.{IsTotalOrder}
use Rattle.std.proofs.Common.{arith, lit<}
use Rattle.range_keys.specs.Order.{KeyOrder, IsLawful, IsMeasure}

-- each value is a key, and nothing but the order is known
abbrev pub bare_order : {K : Type 0} → (K → K → Ordering) → KeyOrder K
bare_order cmp =
    record {
      is_key = λ _. Unit {0};
      cmp = cmp;
      succ = λ _. None;
      pred = λ _. None;
      least = None;
      greatest = None;
    }

module _ {K : Type 0} (cmp : K → K → Ordering) (total : IsTotalOrder cmp) where
  pub bare_lawful : IsLawful (bare_order cmp)
  bare_lawful = record {
    total = total;
    succ_key = λ a b e. cc;
    pred_key = λ a b e. cc;
    succ_above = λ a b e. cc;
    succ_pred = λ a b e. cc;
    pred_succ = λ a b e. cc;
    none_between = λ a b k e key l. cc;
    succ_congr = λ a b e. tt;
    pred_congr = λ a b e. tt;
    least_key = λ m e. cc;
    greatest_key = λ m e. cc;
    least_bound = λ m k e key. cc;
    greatest_bound = λ m k e key. cc;
  }

  -- every measure is 0
  pub bare_measured : IsMeasure (bare_order cmp) (λ _. 0) (λ _ _. 0)
  bare_measured = record {
    len_congr = λ a b p q e. refl;
    itself = λ a b p q e. refl;
    adds = λ a b c p q r f g. refl;
    at_least = λ a b p q l. omega arith;
    step = λ a b e. refl;
    fits = λ a b p q f. lit< tt;
  }
