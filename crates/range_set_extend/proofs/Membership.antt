-- Membership, read off what a map of equal values binds.
use Rattle.std.proofs.Common.{refl, ◌↔◌, ◌⊎◌, inl, inr, Bool, IsTrue, List, [], ◌∷◌, ◌++◌, Some, None}
use Rattle.range_keys.specs.Order.{KeyOrder, IsLawful}
use Rattle.range_algebra.specs.Range.{Holds}
use Rattle.range_algebra.specs.declared.any.AnyRange.{AnyRange}
use Rattle.range_algebra.proofs.Meeting.{held_or_not}
use Rattle.range_store.specs.declared.storage.Item.{Item}
use Rattle.range_runs.specs.Bindings.{IsBound, BindsTo, IsBoundAfter, IsUnboundAfter}
use Rattle.range_map.specs.Retaining.{BindOnlyAsBefore}
use Rattle.range_map.specs.Together.{BindKeysOf}
use Rattle.range_runs.proofs.Overlaps.{binds_bound}
use Rattle.range_set_extend.specs.KeySets.{HoldsKey, SomeHolds, HoldsAlso, HoldsWithout, HoldsAllAlso}

module _ {K : Type 0} (order : KeyOrder K) where
  abbrev Items : Type 0
  Items = List (Item (AnyRange K) (Unit {0}))

  module _ (lawful : IsLawful order) where
    module _ (same : Unit {0} → Unit {0} → Bool)
        (all_same : (v w : Unit {0}) → IsTrue (same v w)) where
      -- every bound key is bound to the one value
      pub bound_to : (items : Items) (k : K) → IsBound order items k → BindsTo order same items k tt
      bound_to [] k h = h
      bound_to (i ∷ rest) k h =
          elim h [
            | inl here ↦ inl (here, all_same i.value tt)
            | inr later ↦ inr (bound_to rest k later)
          ]

      pub added : (before after : Items) (r : AnyRange K)
          → IsBoundAfter order same before after r tt → HoldsAlso order before after r
      added before after r h k key =
          let old : ¬ Holds order r k → HoldsKey order after k ↔ HoldsKey order before k = λ out. (
            λ b. binds_bound order same before k tt
                ((h.others k key out (Some tt)).0 (bound_to after k b)),
            λ b. binds_bound order same after k tt
                ((h.others k key out (Some tt)).1 (bound_to before k b)),
          ) in
          let new : Holds order r k → HoldsKey order after k =
          λ held. binds_bound order same after k tt
          ((h.held k key held (Some tt)).1 (all_same tt tt)) in (
            λ b.
                elim (held_or_not order lawful r k) [
                  | inl held ↦ inr held
                  | inr out ↦ inl ((old out).0 b)
                ],
            λ b.
                elim (held_or_not order lawful r k) [
                  | inl held ↦ new held
                  | inr out ↦ elim b [ inl was ↦ (old out).1 was | inr held ↦ absurd (out held) ]
                ],
          )

      -- what is bound only as before holds no other keys
      pub still_held : (before after : Items) → BindOnlyAsBefore order same before after
          → BindKeysOf order after before
      still_held before after kept k key held =
          binds_bound order same before k tt
          ((kept k key held (Some tt)).0 (bound_to after k held))

      pub removed : (before after : Items) (r : AnyRange K)
          → IsUnboundAfter order same before after r → HoldsWithout order before after r
      removed before after r h k key =
          let old : ¬ Holds order r k → HoldsKey order after k ↔ HoldsKey order before k = λ out. (
            λ b. binds_bound order same before k tt
                ((h.others k key out (Some tt)).0 (bound_to after k b)),
            λ b. binds_bound order same after k tt
                ((h.others k key out (Some tt)).1 (bound_to before k b)),
          ) in
          let gone : Holds order r k → ¬ HoldsKey order after k =
          λ held. (h.held k key held None).1 refl in (
            λ b. let out : ¬ Holds order r k = λ held. gone held b in ((old out).0 b, out),
            λ b. (old b.1).1 b.0,
          )

  -- nothing was added by no range
  pub none_added : (items : Items) → HoldsAllAlso order items items []
  none_added items k key = (λ h. inl h, λ h. elim h [ inl was ↦ was | inr none ↦ absurd none ])

  pub some_either : (ranges others : List (AnyRange K)) (k : K)
      → SomeHolds order (ranges ++ others) k
      ↔ (SomeHolds order ranges k ⊎ SomeHolds order others k)
  some_either [] others k = (λ h. inr h, λ h. elim h [ inl none ↦ absurd none | inr later ↦ later ])
  some_either (r ∷ ranges) others k = (
    λ h. elim h [
      | inl here ↦ inl (inl here)
      | inr later ↦
          elim ((some_either ranges others k).0 later) [
            | inl one ↦ inl (inr one)
            | inr other ↦ inr other
          ]
    ],
    λ h. elim h [
      | inl one ↦
          elim one [
            | inl here ↦ inl here
            | inr later ↦ inr ((some_either ranges others k).1 (inl later))
          ]
      | inr other ↦ inr ((some_either ranges others k).1 (inr other))
    ],
  )

  -- one range more was added
  pub one_more : (first before after : Items) (ranges : List (AnyRange K)) (r : AnyRange K)
      → HoldsAllAlso order first before ranges → HoldsAlso order before after r
      → HoldsAllAlso order first after (ranges ++ r ∷ [])
  one_more first before after ranges r h g k key = (
    λ b. elim ((g k key).0 b) [
      | inl was ↦
          elim ((h k key).0 was) [
            | inl old ↦ inl old
            | inr some ↦ inr ((some_either ranges (r ∷ []) k).1 (inl some))
          ]
      | inr held ↦ inr ((some_either ranges (r ∷ []) k).1 (inr (inl held)))
    ],
    λ b. elim b [
      | inl old ↦ (g k key).1 (inl ((h k key).1 (inl old)))
      | inr some ↦ elim ((some_either ranges (r ∷ []) k).0 some) [
        | inl one ↦ (g k key).1 (inl ((h k key).1 (inr one)))
        | inr last ↦ elim last [ inl held ↦ (g k key).1 (inr held) | inr none ↦ absurd none ]
      ]
    ],
  )
