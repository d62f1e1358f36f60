-- That a list binds what elements that do not meet bind, with one element more.
use Rattle.std.proofs.Common.{◌≡◌, ◌⊎◌, ◌↔◌, inl, inr, List, [], ◌∷◌, ◌++◌, Bool, Option, Some, None, arith}
use Rattle.range_keys.specs.Order.{KeyOrder, IsLawful}
use Rattle.range_algebra.specs.declared.any.AnyRange.{AnyRange}
use Rattle.range_algebra.specs.Range.{Holds, IsEmptyRange, IsKeyRange}
use Rattle.range_algebra.proofs.Lists.{any_left, any_right, any_split}
use Rattle.range_algebra.proofs.Pieces.{empty_or_not}
use Rattle.range_algebra.proofs.Meeting.{held_or_not}
use Rattle.range_store.specs.declared.storage.Item.{Item}
use Rattle.range_runs.specs.Bindings.{BindsTo, Binds, BindAlike, IsBoundAfter}
use Rattle.range_runs.specs.Frames.{IsInsertionFrame}
use Rattle.range_runs.specs.Lookups.{MeetsSome, MeetAlso}
use Rattle.range_runs.proofs.Overlaps.{binding_meets, binds_bound}
use Rattle.range_bulk.proofs.BoundKeys.{bound_split, binds_split}
use Rattle.range_json.specs.MapFaults.{MeetNonempty, MeetsOne, AreApart}

module _ {K V : Type 0} (order : KeyOrder K) where
  -- an element's range met no stored one, and its keys were bound
  pub record IsPut (same : V → V → Bool) (before after : List (Item (AnyRange K) V))
      (x : Item (AnyRange K) V) : Type 0 where
    pub known : IsKeyRange order x.key
    pub apart : ¬ ((¬ IsEmptyRange order x.key) × MeetsSome order before x.key)
    pub bound : IsBoundAfter order same before after x.key x.value
    pub meets : (¬ IsEmptyRange order x.key) → MeetAlso order before after x.key
    pub frame : (¬ IsEmptyRange order x.key)
        → IsInsertionFrame order same before after x.key x.value
    pub unchanged : IsEmptyRange order x.key → after ≡ before

  -- the list binds what the elements bind and meets what they meet, and no two of them meet
  pub record IsBoundAlike (same : V → V → Bool) (items elements : List (Item (AnyRange K) V)) :
      Type 0 where
    pub alike : BindAlike order same items elements
    pub meets : (s : AnyRange K) → IsKeyRange order s → (¬ IsEmptyRange order s)
        → MeetsSome order items s ↔ MeetsOne order s elements
    pub apart : AreApart order elements

  pub none_bound : {same : V → V → Bool} → IsBoundAlike same [] []
  none_bound = record {
    alike = λ k key b. (λ h. h, λ h. h);
    meets = λ s known full. (λ h. h, λ h. h);
    apart = tt;
  }

  -- one more that meets none of those before
  apart_more : (xs : List (Item (AnyRange K) V)) (x : Item (AnyRange K) V) → AreApart order xs
      → ¬ MeetsOne order x.key xs → AreApart order (xs ++ x ∷ [])
  apart_more [] x h none = (λ k. k, tt)
  apart_more (y ∷ xs) x h none = (
    λ one. elim (any_split (λ i. MeetNonempty order i.key y.key) xs (x ∷ []) one) [
      | inl later ↦ h.0 later
      | inr (inl last) ↦ none (inl (last.1, last.0, (last.2.1, last.2.0)))
      | inr (inr none_other) ↦ none_other
    ],
    apart_more xs x h.1 (λ later. none (inr later)),
  )

  -- a range that meets one is nonempty
  one_full : (s : AnyRange K) (xs : List (Item (AnyRange K) V)) → MeetsOne order s xs
      → ¬ IsEmptyRange order s
  one_full s [] h = absurd h
  one_full s (y ∷ xs) (inl here) = here.1
  one_full s (y ∷ xs) (inr later) = one_full s xs later

  module _ (lawful : IsLawful order) (same : V → V → Bool) (old new xs : List (Item (AnyRange K) V))
      (x : Item (AnyRange K) V) (was : IsBoundAlike same old xs) (put : IsPut same old new x) where
    module _ (k : K) (key : order.is_key k) where
      -- the key is bound alike, in the range or not
      key_alike : Holds order x.key k ⊎ (¬ Holds order x.key k) → (b : Option V)
          → Binds order same new k b ↔ Binds order same (xs ++ x ∷ []) k b
      key_alike (inl held) None =
          grind (arith, held, put.bound.held k key held None, bound_split order xs (x ∷ []) k)
      key_alike (inl held) (Some v) =
          let unbound : ¬ BindsTo order same xs k v =
          λ one. let bound = binds_bound order same old k v ((was.alike k key (Some v)).1 one) in
          put.apart (binding_meets order lawful old x.key (k, key, held, bound)) in
          grind (
            arith,
            held,
            put.bound.held k key held (Some v),
            unbound,
            binds_split order same xs (x ∷ []) k v,
          )
      key_alike (inr out) None =
          grind (
            arith,
            out,
            put.bound.others k key out None,
            was.alike k key None,
            bound_split order xs (x ∷ []) k,
          )
      key_alike (inr out) (Some v) =
          grind (
            arith,
            out,
            put.bound.others k key out (Some v),
            was.alike k key (Some v),
            binds_split order same xs (x ∷ []) k v,
          )

    module _ (s : AnyRange K) (known : IsKeyRange order s) (full : ¬ IsEmptyRange order s) where
      abbrev Meets : Item (AnyRange K) V → Type 0
      Meets i = MeetNonempty order i.key s

      range_alike : (IsEmptyRange order x.key) ⊎ (¬ IsEmptyRange order x.key)
          → MeetsSome order new s ↔ MeetsOne order s (xs ++ x ∷ [])
      range_alike (inl empty) = rw (put.unchanged empty) (
        λ h. any_left Meets xs (x ∷ []) ((was.meets s known full).0 h),
        λ h. elim (any_split Meets xs (x ∷ []) h) [
          | inl one ↦ (was.meets s known full).1 one
          | inr (inl last) ↦ absurd (last.0 empty)
          | inr (inr none) ↦ absurd none
        ],
      )
      range_alike (inr nonempty) = let also = put.meets nonempty s known full in (
        λ h. elim (also.0 h) [
          | inl here ↦ any_right Meets xs (x ∷ []) (inl (nonempty, full, here))
          | inr one ↦ any_left Meets xs (x ∷ []) ((was.meets s known full).0 one)
        ],
        λ h. elim (any_split Meets xs (x ∷ []) h) [
          | inl one ↦ also.1 (inr ((was.meets s known full).1 one))
          | inr (inl last) ↦ also.1 (inl last.2)
          | inr (inr none) ↦ absurd none
        ],
      )

    -- one more was put to them
    pub one_more_alike : IsBoundAlike same new (xs ++ x ∷ [])
    one_more_alike = record {
      alike = λ k key b. key_alike k key (held_or_not order lawful x.key k) b;
      meets = λ s known full. range_alike s known full (empty_or_not order x.key);
      apart =
          apart_more xs x was.apart (λ one. let full = one_full x.key xs one in
          put.apart (full, (was.meets x.key put.known full).1 one));
    }
