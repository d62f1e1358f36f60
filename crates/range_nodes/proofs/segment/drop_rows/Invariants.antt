use Rattle.std.proofs.Common.{◌≡◌, ℕ, ◌*◌, ◌<◌, ◌≤◌, length, None}
use Rattle.item_cells.specs.Cells.{cell}
use Rattle.range_nodes.specs.declared.nodes.TheConstants.{CAPACITY}
use Rattle.range_nodes.proofs.segment.drop_rows.Given as goal

abbrev pub invariant-loop-row : goal.invariant-loop-row
invariant-loop-row g l =
    record {
      emptied : (k : ℕ) → k < CAPACITY * l.row → cell l.cells k ≡ None;
      kept : (k : ℕ) → CAPACITY * l.row ≤ k → cell l.cells k ≡ cell l.initial.cells k;
      len : length l.cells ≡ length l.initial.cells;
    }
