-- Gaps, and ranges of cloned keys.
use Rattle.std.proofs.Common.{◌≡◌, arith}
use Rattle.std.specs.declared.ops.Bound.{Bound}
use Rattle.btree_range_map.specs.AnyRange.{AnyRange}
use Rattle.btree_range_map.specs.Clones.{IsBoundClone, IsRangeClone}

module _ {K : Type 0} (is_clone : K → K → Type 0) (same : (x y : K) → is_clone x y → x ≡ y) where
  bound_same : (b c : Bound K) → IsBoundClone is_clone b c → b ≡ c
  bound_same b c h = grind (arith, same)

  pub clone_same : (r s : AnyRange K) → IsRangeClone is_clone r s → r ≡ s
  clone_same r s h =
      let starts = bound_same r.start s.start h.0 in
      let ends = bound_same r.end s.end h.1 in
      λ i. record { start = starts i; end = ends i }
