use Rattle.std.proofs.Common.{◌≡◌, ℕ, suc, ◌+◌, ◌<◌, ◌≤◌, length, None}
use Rattle.item_cells.specs.Cells.{cell}
use Rattle.item_cells.proofs.block.Block.shift_up.Given as goal

-- the empty place went back by as many as were moved
abbrev pub invariant-loop-count : goal.invariant-loop-count
invariant-loop-count g l =
    record {
      moved : (k : ℕ) → l.fn.end ≤ k + l.count → k < l.fn.end
          → cell l.self (suc k) ≡ cell l.initial.self k;
      hole : (k : ℕ) → k + l.count ≡ l.fn.end → cell l.self k ≡ None;
      below : (k : ℕ) → k + l.count < l.fn.end → cell l.self k ≡ cell l.initial.self k;
      above : (k : ℕ) → l.fn.end < k → cell l.self k ≡ cell l.initial.self k;
      len : length l.self ≡ length l.initial.self;
    }
