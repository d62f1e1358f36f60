-- How the bounds of a new list are written, where those of an earlier one lay at the same
-- positions.
use Rattle.std.specs.Prelude.{◌≡◌}
use Rattle.range_runs.specs.Common.{Every, List, Equal, Bound, KeyOrder, start_position, end_position, position_cmp, SameBound, AnyRange, Item}

module _ {K : Type 0} (order : KeyOrder K) {V : Type 0} (items : List (Item (AnyRange K) V)) where
  -- an item that starts where the bound does has the same start bound
  abbrev pub IsStartAsIn : Bound K → Type 0
  IsStartAsIn b =
      Every (λ i. position_cmp order.cmp (start_position order i.key.start) (start_position order b)
      ≡ Equal → SameBound order i.key.start b) items

  -- an item that ends where the bound does has the same end bound
  abbrev pub IsEndAsIn : Bound K → Type 0
  IsEndAsIn b =
      Every (λ i. position_cmp order.cmp (end_position order i.key.end) (end_position order b)
      ≡ Equal → SameBound order i.key.end b) items

  abbrev pub IsSpelledAsIn : AnyRange K → Type 0
  IsSpelledAsIn r = IsStartAsIn r.start × IsEndAsIn r.end

  -- each start of the new list that lies where one of the items starts is that one's, and likewise
  -- each end
  abbrev pub KeepsSpelling : List (Item (AnyRange K) V) → Type 0
  KeepsSpelling new = Every (λ j. IsSpelledAsIn j.key) new
