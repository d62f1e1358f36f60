-- What is said of a range that was not inserted since a stored one is in its way.
use Rattle.std.specs.Prelude.{⊤}
use Rattle.range_map.specs.Common.{AnyRange}
use Rattle.range_map.specs.declared.map.try_insert.NotFree.{NotFree}
use Rattle.range_map.specs.declared.map.try_insert.NotFree.TheVariants.{Occupied, Memory}

module _ {K V : Type 0} where
  -- what a refused call hands back
  abbrev pub given_back : NotFree K V → AnyRange K × V
  given_back (Occupied r v) = (r, v)
  given_back (Memory r v) = (r, v)

  -- refused since a stored range is in the way
  abbrev pub IsOccupied : NotFree K V → Type 0
  IsOccupied (Occupied r v) = ⊤
  IsOccupied (Memory r v) = ⊥
