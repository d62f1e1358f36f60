-- Where excluded ends lie to each other.
use Rattle.std.proofs.Common.{◌≡◌, refl, Option, Some, None, arith}
use Rattle.std.specs.declared.cmp.Ordering.{Ordering}
use Rattle.std.specs.declared.cmp.Ordering.TheVariants.{Less, Equal, Greater}
use Rattle.std.specs.declared.ops.Bound.TheVariants.{Excluded}
use Rattle.range_keys.specs.Order.{KeyOrder, IsLawful, SameAnswer}
use Rattle.range_keys.specs.Position.{end_position, position_cmp, at_known}
use Rattle.range_keys.specs.declared.inner.position.Position.TheVariants.{Beside}
use Rattle.range_keys.specs.declared.inner.position.Side.TheVariants.{Before}
use Rattle.range_algebra.proofs.Holding.{not_after, pred_below}

module _ {K : Type 0} (order : KeyOrder K) (lawful : IsLawful order) where
  told_ends : (a b : K) (o p : Option K) (r : Ordering) → order.pred a ≡ o → order.pred b ≡ p
      → order.is_key a → order.is_key b → order.cmp a b ≡ r
      → (r ≡ Equal → SameAnswer order o p)
      → position_cmp order.cmp (at_known o (Beside a Before)) (at_known p (Beside b Before)) ≡ r
  told_ends a b None None Less e f key other is same = grind arith
  told_ends a b None None Equal e f key other is same = grind arith
  told_ends a b None None Greater e f key other is same = grind arith
  told_ends a b None (Some y) Less e f key other is same =
      let below = not_after order lawful y b a f key is in
      grind arith
  told_ends a b None (Some y) Equal e f key other is same = absurd (same refl)
  told_ends a b None (Some y) Greater e f key other is same =
      let below = pred_below order lawful y b f in
      grind arith
  told_ends a b (Some x) None Less e f key other is same =
      let below = pred_below order lawful x a e in
      grind arith
  told_ends a b (Some x) None Equal e f key other is same = absurd (same refl)
  told_ends a b (Some x) None Greater e f key other is same =
      grind (arith, not_after, pred_below)
  told_ends a b (Some x) (Some y) Less e f key other is same =
      grind (arith, not_after, pred_below)
  told_ends a b (Some x) (Some y) Equal e f key other is same = grind (arith, same refl)
  told_ends a b (Some x) (Some y) Greater e f key other is same =
      grind (arith, not_after, pred_below)

  -- excluded ends lie as their keys do
  pub excluded_ends : (a b : K) → order.is_key a → order.is_key b
      → position_cmp order.cmp (end_position order (Excluded a)) (end_position order (Excluded b))
      ≡ order.cmp a b
  excluded_ends a b key other =
      told_ends a b (order.pred a) (order.pred b) (order.cmp a b) refl refl key other refl
      (lawful.pred_congr a b)
