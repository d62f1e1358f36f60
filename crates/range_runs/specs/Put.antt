-- How an answer is added to those before it.
use Rattle.std.specs.Prelude.{◌≡◌, ◌-◌, ◌<◌, ◌⊎◌, ◌∷◌, ◌++◌}
use Rattle.range_runs.specs.Common.{Bool, true, List, [], length, slice_index_or, slice_set, Option, Some, None, Bound, KeyOrder, IsBoundClone, IsBoundOfKey, Touches, AnyRange, Item}
use Rattle.range_runs.specs.Edits.{with_end}

module _ {K : Type 0} (order : KeyOrder K) {V : Type 0} (same : V → V → Bool) where
  -- the last item touches the range with an equal value
  abbrev pub JoinsLast : List (Item (AnyRange K) V) → AnyRange K → V → Type 0
  JoinsLast items r v =
      (0 < length items)
      × ((d : Item (AnyRange K) V)
      → Touches order (slice_index_or items (length items - 1) d).key r
      × (same (slice_index_or items (length items - 1) d).value v ≡ true))

  abbrev pub JoinsNoLast : List (Item (AnyRange K) V) → AnyRange K → V → Type 0
  JoinsNoLast items r v = (d : Item (AnyRange K) V) → 0 < length items
      → Touches order (slice_index_or items (length items - 1) d).key r
      → same (slice_index_or items (length items - 1) d).value v ≡ true → ⊥

  module _ (is_clone : K → K → Type 0) where
    -- the range stands after the others, with cloned bounds
    pub record IsAppended (old new : List (Item (AnyRange K) V)) (r : AnyRange K)
        (v : V) : Type 0 where
      pub start : Bound K
      pub end : Bound K
      pub start_clone : IsBoundClone is_clone r.start start
      pub end_clone : IsBoundClone is_clone r.end end
      pub known : IsBoundOfKey order start × IsBoundOfKey order end
      pub list : new ≡ old ++ record { key = record { start = start; end = end }; value = v } ∷ []
      pub apart : JoinsNoLast old r v

    -- the last of the others goes on to its end
    pub record IsExtended (old new : List (Item (AnyRange K) V)) (r : AnyRange K)
        (v : V) : Type 0 where
      pub end : Bound K
      pub end_clone : IsBoundClone is_clone r.end end
      pub known : IsBoundOfKey order end
      pub list : (d : Item (AnyRange K) V)
          → new ≡ slice_set old (length old - 1)
          (with_end (slice_index_or old (length old - 1) d) end)
      pub joins : JoinsLast old r v

    abbrev pub IsPut : List (Item (AnyRange K) V) → List (Item (AnyRange K) V) → AnyRange K
        → Option V → Type 0
    IsPut old new r None = new ≡ old
    IsPut old new r (Some v) = IsAppended old new r v ⊎ IsExtended old new r v
