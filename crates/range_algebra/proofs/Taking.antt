-- Bounds that are taken from one range into another.
use Rattle.std.proofs.Common.{◌≡◌, ◌↔◌, true, false, Bool, ◌⊎◌, if◌then◌else◌, arith}
use Rattle.std.specs.declared.ops.Bound.{Bound}
use Rattle.std.specs.declared.cmp.Ordering.{Ordering}
use Rattle.std.specs.declared.cmp.Ordering.TheVariants.{Equal}
use Rattle.std.specs.Ordering.{is_eq}
use Rattle.range_keys.specs.Order.{KeyOrder, IsLawful}
use Rattle.range_algebra.specs.declared.any.AnyRange.{AnyRange}
use Rattle.range_algebra.specs.Clones.{SameBound, same_bounds}
use Rattle.range_algebra.specs.Combined.{earlier_start, later_end, common}
use Rattle.range_algebra.specs.Range.{StartHolds, EndHolds, Holds, ClonesAreEqual}
use Rattle.range_algebra.proofs.Canonical.{equal_is_same}
use Rattle.range_algebra.proofs.Commons.{start_either, end_either, common_holds}

-- what the order of keys says of a clone that equals its source
pub clones_tie : {K : Type 0} (order : KeyOrder K) (is_clone : K → K → Type 0) (eq : K → K → Bool)
    (cmp : K → K → Ordering) → ((a b : K) → cmp a b ≡ order.cmp a b)
    → ((a b : K) → eq a b ≡ is_eq (cmp a b)) → ClonesAreEqual is_clone eq
    → (x y : K) → is_clone x y → order.cmp x y ≡ Equal
clones_tie order is_clone eq cmp agrees ties clones x y h = grind arith

module _ {K : Type 0} (order : KeyOrder K) (lawful : IsLawful order) where
  pub own_taken : (t : Bool) (a b : Bound K) → t ≡ true → SameBound order (if t then a else b) a
  own_taken t a b e = grind arith

  pub other_taken : (t : Bool) (a b c : Bound K) → t ≡ false → SameBound order b c
      → SameBound order (if t then a else b) c
  other_taken t a b c e h = grind arith

  same_start_holds : (a b : Bound K) (k : K) → order.is_key k → SameBound order a b
      → StartHolds order a k ↔ StartHolds order b k
  same_start_holds a b k key h = grind arith

  same_end_holds : (a b : Bound K) (k : K) → order.is_key k → SameBound order a b
      → EndHolds order a k ↔ EndHolds order b k
  same_end_holds a b k key h = grind arith

  -- the earlier start and the later end hold what one of the two does
  pub hull_holds : (a b s c d e : Bound K) → SameBound order (earlier_start order a b) s
      → SameBound order (later_end order c d) e → (k : K) → order.is_key k
      → (StartHolds order s k × EndHolds order e k)
      ↔ ((StartHolds order a k ⊎ StartHolds order b k)
      × (EndHolds order c k ⊎ EndHolds order d k))
  hull_holds a b s c d e starts ends k key =
      let from = start_either order lawful a b k key in
      let to = end_either order lawful c d k key in
      let start = same_start_holds (earlier_start order a b) s k key starts in
      let end = same_end_holds (later_end order c d) e k key ends in
      (λ h. (from.0 (start.1 h.0), to.0 (end.1 h.1)), λ h. (start.0 (from.1 h.0), end.0 (to.1 h.1)))

  -- a range with the bounds of the common part holds the keys of both
  pub same_common_holds : (r s x : AnyRange K) → SameBound order (common order r s).start x.start
      → SameBound order (common order r s).end x.end → (k : K) → order.is_key k → Holds order x k
      ↔ (Holds order r k × Holds order s k)
  same_common_holds r s x starts ends k key =
      let same =
      equal_is_same order lawful (common order r s) x
      (same_bounds order lawful (common order r s) x starts ends) k key in
      let held = common_holds order lawful r s k key in
      (λ h. held.0 (same.1 h), λ h. same.0 (held.1 h))
