-- A list that is changed by itself.
use Rattle.std.proofs.Common.{arith, inl, inr, [], ◌∷◌}
use Rattle.std.specs.Prelude.{ℤ}
use Rattle.std.specs.Ordering.{int_eq}
use Rattle.btree_range_map.specs.Bindings.{BindsTo, IsBound}
use Rattle.btree_range_map.specs.Order.{KeyOrder}
use Rattle.btree_range_map.specs.Overlays.{IsOverlaid, IsWithout}
use Rattle.rangecalc.specs.Ranges.{Ranges}

module _ {K : Type 0} (order : KeyOrder K) where
  pub overlaid_by_itself : (items : Ranges K) → IsOverlaid order int_eq items items items
  overlaid_by_itself items = grind arith

  pub is_bound : (items : Ranges K) (k : K) (v : ℤ) → BindsTo order int_eq items k v
      → IsBound order items k
  is_bound [] k v none = none
  is_bound (i ∷ rest) k v binds = grind (arith, is_bound rest k v)

  pub without_itself : (items : Ranges K) → IsWithout order int_eq items items []
  without_itself items = grind (arith, is_bound)
