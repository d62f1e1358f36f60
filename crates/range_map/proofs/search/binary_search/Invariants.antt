use Rattle.range_map.proofs.Common.{◌-◌, ◌<◌, ◌≤◌, length, get_or, AllWithin, AnyRange, Item}
use Rattle.range_runs.specs.Searches.{ElementIsBefore}
use Rattle.range_map.proofs.search.binary_search.Given as goal

abbrev pub invariant-loop-low : goal.invariant-loop-low
invariant-loop-low g l =
    let order = g.T.MaybeBounded.order in
    let element = g.U.AsRange.range l.element in
    record {
      in_order : l.low ≤ l.high;
      in_range : l.high ≤ length l.items;
      reached : 0 < l.low → (d : Item (AnyRange g.row.T.Denot) g.row.V.Denot)
          → ElementIsBefore order element l.connected (get_or l.items (l.low - 1) d).key → ⊥;
      behind : AllWithin (λ (i : Item (AnyRange g.row.T.Denot) g.row.V.Denot). ElementIsBefore order
          element l.connected i.key) l.items l.high (length l.items);
    }

abbrev pub decreases-loop-low : goal.decreases-loop-low
decreases-loop-low g l = l.high - l.low
