use Rattle.std.proofs.Common.{◌≡◌, ◌+◌, ◌-◌, ◌≤◌, true, false, length, min}
use Rattle.std.specs.List.{AllWithin}
use Rattle.btree_range_map.specs.Counting.{greatest_count}
use Rattle.odd_keys.proofs.ring.RingStorageStorage.search.Given as goal

abbrev pub invariant-loop-low : goal.invariant-loop-low
invariant-loop-low g l =
    let test = g.P.Probe.test in
    let steps = g.P.Probe.steps_taken in
    let items = l.self.stored.items in
    record {
      in_order : l.low ≤ l.high;
      in_range : l.high ≤ length items;
      kept : (x : g.row.T.Denot) → test l.probe x ≡ test l.fn.probe x;
      passed : AllWithin (λ x. test l.fn.probe x ≡ true) items 0 l.low;
      failed : AllWithin (λ x. test l.fn.probe x ≡ false) items l.high (length items);
      at_most : steps l.probe + (l.high - l.low) ≤ steps l.fn.probe + length items;
      at_least : min (steps l.fn.probe) greatest_count ≤ steps l.probe;
    }

abbrev pub decreases-loop-low : goal.decreases-loop-low
decreases-loop-low g l = l.high - l.low
