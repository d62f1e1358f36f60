-- What is said of a range that was not added since a stored one is in its way.
use Rattle.std.specs.Prelude.{⊤}
use Rattle.range_algebra.specs.declared.any.AnyRange.{AnyRange}
use Rattle.range_sets.specs.declared.set.try_insert.NotAdded.{NotAdded}
use Rattle.range_sets.specs.declared.set.try_insert.NotAdded.TheVariants.{Occupied, Memory}

module _ {K : Type 0} where
  -- what a refused call hands back
  abbrev pub given_back : NotAdded K → AnyRange K
  given_back (Occupied r) = r
  given_back (Memory r) = r

  -- refused since a stored range is in the way
  abbrev pub IsOccupied : NotAdded K → Type 0
  IsOccupied (Occupied r) = ⊤
  IsOccupied (Memory r) = ⊥
