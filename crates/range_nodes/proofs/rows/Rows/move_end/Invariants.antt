use Rattle.std.proofs.Common.{◌≡◌, ◌≤◌, ◌++◌, length, take, drop}
use Rattle.std.specs.Prelude.{slice_set}
use Rattle.range_nodes.specs.Rows.{row_of}
use Rattle.range_nodes.proofs.rows.Rows.move_end.Given as goal

abbrev pub invariant-loop-left : goal.invariant-loop-left
invariant-loop-left g l =
    record {
      rows : l.self ≡ slice_set
          (slice_set l.initial.self l.fn.from (take l.left (row_of l.initial.self l.fn.from)))
          l.fn.to (row_of l.initial.self l.fn.to ++ drop l.left (row_of l.initial.self l.fn.from));
      few : l.left ≤ length (row_of l.initial.self l.fn.from);
      many : l.fn.start ≤ l.left;
    }

abbrev pub decreases-loop-left : goal.decreases-loop-left
decreases-loop-left g l = l.left
