use Rattle.std.proofs.Common.{◌≡◌, ◌++◌, map, length}
use Rattle.btree_range_map.specs.Holding.{box_items}
use Rattle.address_tables.proofs.Pushed.{HaveSpans, Spans}
use Rattle.address_tables.proofs.spans.spans_of.Given as goal

abbrev pub invariant-loop-range : goal.invariant-loop-range
invariant-loop-range g l = record {
  spans : HaveSpans g.A.Address.number g.A.Address.at g.A.Address.WIDTH l.items;
  made : l.spans.items ++ Spans g.A.Address.number g.A.Address.at g.A.Address.WIDTH
      g.V.PartialEq.eq (map (λ v. v.now) l.values) l.items
      ≡ Spans g.A.Address.number g.A.Address.at g.A.Address.WIDTH
      g.V.PartialEq.eq (map (λ v. v.now) l.values) (box_items l.fn.table);
}

abbrev pub decreases-loop-range : goal.decreases-loop-range
decreases-loop-range g l = length l.items
