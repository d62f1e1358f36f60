use Rattle.std.proofs.Common.{◌≡◌, ℕ, suc, ◌<◌, ◌≤◌, length, None}
use Rattle.item_cells.specs.Cells.{cell}
use Rattle.item_cells.proofs.block.Block.shift_down.Given as goal

abbrev pub invariant-loop-at : goal.invariant-loop-at
invariant-loop-at g l =
    record {
      moved : (k : ℕ) → l.fn.start ≤ k → k < l.at → cell l.self k ≡ cell l.initial.self (suc k);
      hole : cell l.self l.at ≡ None;
      below : (k : ℕ) → k < l.fn.start → cell l.self k ≡ cell l.initial.self k;
      above : (k : ℕ) → l.at < k → cell l.self k ≡ cell l.initial.self k;
      len : length l.self ≡ length l.initial.self;
    }
