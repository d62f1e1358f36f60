-- The items that a range meets, and the range that all items span.
use Rattle.std.specs.Prelude.{◌≡◌, List, [], ◌∷◌, ◌++◌}
use Rattle.range_map.specs.Common.{AnyRange, Item}
pub use Rattle.range_runs.specs.Runs.{AreOverlapping}

-- the range from the start of the first item to the end of the last
pub record IsSpan {K V : Type 0} (items : List (Item (AnyRange K) V))
    (s : AnyRange K) : Type 0 where
  pub first : Item (AnyRange K) V
  pub last : Item (AnyRange K) V
  pub starts : (rest : List (Item (AnyRange K) V)) × (items ≡ first ∷ rest)
  pub ends : (front : List (Item (AnyRange K) V)) × (items ≡ front ++ last ∷ [])
  pub is : s ≡ record { start = first.key.start; end = last.key.end }
