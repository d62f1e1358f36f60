use Rattle.std.proofs.Common.{◌≡◌, length, take}
use Rattle.shortest_tables.proofs.Seen.{AreMarked}
use Rattle.shortest_tables.proofs.labels.mark.Given as goal

-- those so far are marked
abbrev pub invariant-loop-value : goal.invariant-loop-value
invariant-loop-value l = record {
  same_length : length l.seen.items ≡ length l.fn.seen.items;
  marked : AreMarked (take l.value-index l.values) l.is_seen l.fn.seen.items l.seen.items;
}
