use Rattle.std.proofs.Common.{◌≡◌, take, drop}
use Rattle.std.specs.Prelude.{slice_set}
use Rattle.std.specs.Vec.Iter.{into_iter_items}
use Rattle.range_nodes.proofs.rows.Rows.fill.Given as goal

abbrev pub invariant-loop-index : goal.invariant-loop-index
invariant-loop-index g l =
    record {
      rows : l.self ≡ slice_set l.initial.self l.fn.number
          (take l.index (into_iter_items l.initial.items));
      rest : into_iter_items l.items ≡ drop l.index (into_iter_items l.initial.items);
    }
