-- Which keys a map of equal values holds once it was changed by another.
use Rattle.std.proofs.Common.{◌↔◌, inl, inr, Bool, IsTrue, List, Option, Some, arith}
use Rattle.range_keys.specs.Order.{KeyOrder, IsLawful}
use Rattle.range_algebra.specs.declared.any.AnyRange.{AnyRange}
use Rattle.range_store.specs.declared.storage.Item.{Item}
use Rattle.range_runs.specs.Bindings.{Binds}
use Rattle.range_runs.proofs.Overlaps.{binds_bound}
use Rattle.range_map.specs.Overlays.{IsOverlaid, IsRestricted, IsWithout}
use Rattle.range_map.specs.PartWay.{AreUnboundAfter, BeforeOne, BeforeOneGap}
use Rattle.range_bulk.proofs.BoundKeys.{bound_or_not}
use Rattle.range_set_extend.specs.KeySets.{HoldsKey, HoldsWithoutAll}
use Rattle.range_sets.specs.TwoSets.{HoldsEither, HoldsBoth, HoldsFirstAlone}
use Rattle.range_set_extend.proofs.Membership.{bound_to}

-- what follows of any part follows of this one
pub before_one : {A : Type 0} (P Q : List A → Type 0) (all : List A)
    → ((part : List A) → P part → Q part) → BeforeOne all P → BeforeOne all Q
before_one P Q all weaker h = (h.0, h.1, h.2, h.3, weaker h.0 h.4)

pub before_one_gap : {K V : Type 0} (order : KeyOrder K) (P Q : List (AnyRange K) → Type 0)
    (items : List (Item (AnyRange K) V)) → ((part : List (AnyRange K)) → P part → Q part)
    → BeforeOneGap order items P → BeforeOneGap order items Q
before_one_gap order P Q items weaker h = (h.0, h.1, before_one P Q h.0 weaker h.2)

module _ {K : Type 0} (order : KeyOrder K) (lawful : IsLawful order)
    (same : Unit {0} → Unit {0} → Bool) (all_same : (v w : Unit {0}) → IsTrue (same v w)) where
  abbrev Items : Type 0
  Items = List (Item (AnyRange K) (Unit {0}))

  hold_alike : (items new : Items) (k : K) → ((b : Option (Unit {0}))
      → Binds order same new k b ↔ Binds order same items k b)
      → HoldsKey order new k ↔ HoldsKey order items k
  hold_alike items new k alike = (
    λ h. binds_bound order same items k tt
        ((alike (Some tt)).0 (bound_to order lawful same all_same new k h)),
    λ h. binds_bound order same new k tt
        ((alike (Some tt)).1 (bound_to order lawful same all_same items k h)),
  )

  pub either : (items others new : Items) → IsOverlaid order same items others new
      → HoldsEither order items others new
  either items others new h k key =
      elim (bound_or_not order lawful others k) [
        | inl there ↦
            (λ b. inr there, λ b. (hold_alike others new k (h.over k key there)).1 there)
        | inr none ↦ grind (arith, hold_alike)
      ]

  module _ {W : Type 0} (items : Items) (others : List (Item (AnyRange K) W)) (new : Items) where
    pub both : IsRestricted order same items others new → HoldsBoth order items others new
    both h k key =
        elim (bound_or_not order lawful others k) [
          | inl there ↦
              let alike = hold_alike items new k (h.kept k key there) in
              (λ b. (alike.0 b, there), λ b. alike.1 b.0)
          | inr none ↦ (λ b. absurd (h.gone k key none b), λ b. absurd (none b.1))
        ]

    pub first_alone : IsWithout order same items others new → HoldsFirstAlone order items others new
    first_alone h k key = grind (arith, hold_alike)

  pub without_all : (items new : Items) (ranges : List (AnyRange K))
      → AreUnboundAfter order same items new ranges → HoldsWithoutAll order items new ranges
  without_all items new ranges h k key = grind (arith, hold_alike)
