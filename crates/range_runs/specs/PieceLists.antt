-- The pieces of a range as a list, read off from the items that meet it.
use Rattle.std.specs.Prelude.{◌∷◌, ◌++◌, if◌then◌else◌}
use Rattle.range_runs.specs.Common.{List, [], Option, Some, None, map, option_copied, Bound, Bor, KeyOrder, flipped, starts_past_end, AnyRange, Item}
use Rattle.range_algebra.specs.Combined.{common}
use Rattle.range_algebra.specs.References.{range_of}

-- the piece that a range over references shows, with its value if it is bound
abbrev pub shown_piece : {K V : Type 0} → AnyRange (Bor K) × Option (Bor V)
    → Item (AnyRange K) (Option V)
shown_piece pair = record { key = range_of pair.0; value = option_copied pair.1 }

abbrev pub free_piece : {K V : Type 0} → AnyRange K → Item (AnyRange K) (Option V)
free_piece r = record { key = r; value = None }

module _ {K : Type 0} (order : KeyOrder K) where
  -- the range between two bounds, unless it is empty or one of them is missing
  abbrev pub between : Option (Bound K) → Option (Bound K) → List (AnyRange K)
  between None end = []
  between (Some start) None = []
  between (Some start) (Some end) =
      if starts_past_end order start end then [] else record { start = start; end = end } ∷ []

  module _ {V : Type 0} where
    -- what an item and a range have in common, with the item's value
    abbrev pub bound_piece : AnyRange K → Item (AnyRange K) V → Item (AnyRange K) (Option V)
    bound_piece r i = record { key = common order i.key r; value = Some i.value }

    -- the free piece between two bounds, unless it is empty or one of them is missing
    abbrev pub free_between : Option (Bound K) → Option (Bound K)
        → List (Item (AnyRange K) (Option V))
    free_between start end = map free_piece (between start end)

    -- the pieces of a range from a start to an end, where the items stand between
    abbrev pub pieces_from : AnyRange K → Option (Bound K) → Option (Bound K)
        → List (Item (AnyRange K) V) → List (Item (AnyRange K) (Option V))
    pieces_from r start end [] = free_between start end
    pieces_from r start end (i ∷ rest) =
        free_between start (flipped i.key.start)
        ++ bound_piece r i ∷ pieces_from r (flipped i.key.end) end rest

    -- all pieces of a range that meets these items
    abbrev pub pieces_of : AnyRange K → List (Item (AnyRange K) V)
        → List (Item (AnyRange K) (Option V))
    pieces_of r met = pieces_from r (Some r.start) (Some r.end) met
