-- The free pieces of a range as a list.
use Rattle.std.specs.Prelude.{◌≡◌, List, [], ◌∷◌, ◌++◌, Option, Some, None}
use Rattle.range_reads.specs.Common.{Equal, KeyOrder, Any, Every, IsKeyRange, range_cmp, LiesBefore, AnyRange, Item, EachNext, IsPiece}
pub use Rattle.range_runs.specs.PieceLists.{shown_piece}

-- the range, if no value is there
abbrev pub range_if_free : {K V : Type 0} → AnyRange K → Option V → List (AnyRange K)
range_if_free r None = r ∷ []
range_if_free r (Some v) = []

-- the ranges of the pieces that are free
abbrev pub free_ranges : {K V : Type 0} → List (Item (AnyRange K) (Option V)) → List (AnyRange K)
free_ranges [] = []
free_ranges (p ∷ rest) = range_if_free p.key p.value ++ free_ranges rest

module _ {K : Type 0} (order : KeyOrder K) {V : Type 0} where
  -- all free pieces of the range, each before the next
  pub record AreGapsWithin (items : List (Item (AnyRange K) V)) (r : AnyRange K)
      (gaps : List (AnyRange K)) : Type 0 where
    pub each : Every (λ g. IsPiece order items r g None) gaps
    pub rising : EachNext (LiesBefore order) gaps
    pub all : (part : AnyRange K) → IsKeyRange order part → IsPiece order items r part None
        → Any (λ g. range_cmp order g part ≡ Equal) gaps
