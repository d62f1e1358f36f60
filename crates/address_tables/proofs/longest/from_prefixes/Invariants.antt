use Rattle.btree_range_map.specs.Holding.{box_items}
use Rattle.address_tables.proofs.Bound.{IsBoundBelow}
use Rattle.address_tables.proofs.longest.from_prefixes.Given as goal

abbrev pub invariant-loop-length : goal.invariant-loop-length
invariant-loop-length g l =
    IsBoundBelow g.met.A.Address.family g.V.PartialEq.eq l.length l.entries (box_items l.table)
