-- The gaps of a list: what its ranges leave free of all keys.
use Rattle.std.specs.Prelude.{◌≡◌, List, [], ◌∷◌, ◌++◌, ◌⊎◌, Option, Some, None}
use Rattle.range_reads.specs.Common.{Bor, option_map, Equal, Bound, KeyOrder, bound_of, flipped, Any, Every, Holds, IsKeyRange, range_cmp, LiesBefore, AnyRange, Item, EachNext, IsPiece}
use Rattle.std.specs.declared.ops.Bound.TheVariants.{Unbounded}
pub use Rattle.range_runs.specs.PieceLists.{between}

abbrev pub full_range : {K : Type 0} → AnyRange K
full_range = record { start = Unbounded; end = Unbounded }

abbrev pub item_ranges : {K V : Type 0} → List (Item (AnyRange K) V) → List (AnyRange K)
item_ranges [] = []
item_ranges (i ∷ rest) = i.key ∷ item_ranges rest

module _ {K : Type 0} (order : KeyOrder K) where
  -- exactly one range of the list holds the key
  abbrev pub IsHeldOnce : List (AnyRange K) → K → Type 0
  IsHeldOnce [] k = ⊥
  IsHeldOnce (r ∷ rest) k =
      (Holds order r k × Every (λ s. ¬ Holds order s k) rest) ⊎
      ((¬ Holds order r k) × IsHeldOnce rest k)

  -- all free pieces of the full range, each before the next
  pub record AreGaps {V : Type 0} (items : List (Item (AnyRange K) V))
      (gaps : List (AnyRange K)) : Type 0 where
    pub each : Every (λ g. IsPiece order items full_range g None) gaps
    pub rising : EachNext (LiesBefore order) gaps
    pub all : (part : AnyRange K) → IsKeyRange order part
        → IsPiece order items full_range part None → Any (λ g. range_cmp order g part ≡ Equal) gaps

  -- what is free from a start on, where the items stand after it
  abbrev pub free_from : {V : Type 0} → Option (Bound K) → List (Item (AnyRange K) V)
      → List (AnyRange K)
  free_from start [] = between order start (Some Unbounded)
  free_from start (i ∷ rest) =
      between order start (flipped i.key.start) ++ free_from (flipped i.key.end) rest

  -- the same, where the start refers to a key
  abbrev pub free_after : {V : Type 0} → Option (Bound (Bor K)) → List (Item (AnyRange K) V)
      → List (AnyRange K)
  free_after start = free_from (option_map bound_of start)
