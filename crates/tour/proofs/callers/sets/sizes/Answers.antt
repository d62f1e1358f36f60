use Rattle.std.proofs.Common.{lit<}
use Rattle.btree_range_map.specs.Counted.{measure_counts_keys}
use Rattle.btree_range_map.specs.Unsigned.{unsigned_counted}
use Rattle.tour.proofs.callers.sets.sizes.Goals as goal

pub returns-clause-keys : goal.returns-clause-keys
returns-clause-keys g c =
    c.len.ensures.counted (measure_counts_keys (unsigned_counted 255) (lit< tt))
